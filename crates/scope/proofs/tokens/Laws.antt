-- Laws of the scope: where a token stands, the marks, and what they say. Assumes nothing.
use Prim.Native.Nat.{ℕ, zero, suc, ◌+◌, ◌-◌, ◌<◌, ◌≤◌}
use mathlib.Core.Path.{◌≡◌, refl, sym, ap, ◌∙◌}
use mathlib.Core.Bool.{Bool, true, false, cond, not, ◌&&◌, ◌||◌, or-true, false≢true}
use mathlib.Core.List.{List, [], ◌∷◌, ◌++◌}
use native.Mathlib.Omega.{arith}
use native.Mathlib.Numerals.{add-one}
use lib.Dec.{eqb, ltb}
use lib.ListN.{length, get_or, drop, set, replicate, length-set, get_or-replicate, length-replicate, length-append}
use lib.Seq.{get_or-set_same, get_or-set_other}
use borrow.Author.Tests.{eq-eqb, ne_eqb, eqb-true, eqb-false, ltb-true, not-true, not-false}
use Rattle.std.specs.List.{list_all, list_any, IsAllAdjacentAnswer}
use Rattle.std.proofs.Common.{nat_eq, Option, Some, None, is_some, IfSome, Bor}
use Rattle.std.specs.Option.{option_eq}
use Rattle.std.proofs.lemmas.List.Recursion.{same_from_clauses}
use Rattle.chain.specs.Lists.{only, count, find, is_among, all_in}
use Rattle.chain.proofs.Chain.{caseB, both, and3}
use Rattle.chain.proofs.Lists.{sum_eq, sum_pair, count_pos, count_most, find_on, find_here, find_hit, in_cons, in_append, get_or-any}
use Rattle.scope.specs.Scope.{slot_of, Rising, Rises, each_once, in_scope}

-- ---- the search for a token
pub among_any : (t : ℕ) (l : List ℕ) (r : Bool) → r ≡ list_any (λ u. nat_eq u t) l → r ≡ is_among t l
among_any t l r e = e ∙ sym (same_from_clauses (is_among t) (list_any (λ u. nat_eq u t)) (λ u b. eqb u t || b) refl (λ u us. in_cons t u us ∙ swap u us) (λ u us. refl) l)
  where
    swap : (u : ℕ) (us : List ℕ) → (eqb t u || is_among t us) ≡ (eqb u t || is_among t us)
    swap u us = caseB (eqb u t)
        (λ y. let z = eq-eqb t u (sym (eqb-true u t y)) in rw (y, z))
        (λ y. let z = ne_eqb t u (λ q. eqb-false u t y (sym q)) in rw (y, z))

-- ---- where tokens rise, the one that is met is the first
pub rises_adjacent : (l : List ℕ) (r : Bool) → IsAllAdjacentAnswer (λ x y b. b ≡ ltb x y) l r → Rises r l
rises_adjacent l true a e k h =
    let y : ltb (get_or l k 0) (get_or l (k + 1) 0) ≡ true = sym (a k 0 (omega arith)) in
    ltb-true (get_or l k 0) (get_or l (suc k) 0) (rw add-one at y)
rises_adjacent l false a e k h = absurd (false≢true e)

module _ (l : List ℕ) (r : Rising l) where
  rising_lt : (m k : ℕ) → suc (k + m) < length l → get_or l k 0 < get_or l (suc (k + m)) 0
  rising_lt zero k h = let z : k + 0 ≡ k = omega arith in rw z (r k (omega arith))
  rising_lt (suc m) k h =
      let z : k + suc m ≡ suc (k + m) = omega arith in
      rw z (omega (arith, rising_lt m k (omega arith), r (suc (k + m)) (omega arith)))

  none_before : (t k : ℕ) → k < length l → t ≡ get_or l k 0 → (i : ℕ) → i ≤ k → i ≤ find (eqb t) l
  none_before t k h e zero q = omega arith
  none_before t k h e (suc i) q =
      let z : suc (i + (k - suc i)) ≡ k = omega arith in
      let lt : get_or l i 0 < get_or l k 0 = rw z at (rising_lt (k - suc i) i (omega arith)) in
      let on = find_on (eqb t) 0 l i (omega arith) (none_before t k h e i (omega arith)) (ne_eqb t (get_or l i 0) (λ y. absurd (omega arith))) in
      omega (arith, on)

-- what the place answers that equals y
found_near : (l : List ℕ) (near : ℕ) (o : Option (Bor ℕ)) (y : Bor ℕ) → is_some o ≡ ltb near (length l) → IfSome o (λ x. x.now ≡ get_or l near x.now)
    → option_eq (λ (x z : Bor ℕ). eqb x.now z.now) o (Some y) ≡ true → (near < length l) × (y.now ≡ get_or l near 0)
found_near l near None y s i e = absurd (false≢true e)
found_near l near (Some x) y s i e =
    let h = ltb-true near (length l) (sym s) in (h, sym (eqb-true x.now y.now e) ∙ i ∙ get_or-any l near x.now 0 h)

pub near_is : (l : List ℕ) (near : ℕ) (o : Option (Bor ℕ)) (y : Bor ℕ) (rising b : Bool) → is_some o ≡ ltb near (length l) → IfSome o (λ x. x.now ≡ get_or l near x.now)
    → b ≡ option_eq (λ (x z : Bor ℕ). eqb x.now z.now) o (Some y) → Rises rising l → rising ≡ true → b ≡ true → near ≡ slot_of l y.now
near_is l near o y rising b s i eb r q t =
    let p = found_near l near o y s i (sym eb ∙ t) in
    sym (find_here (eqb y.now) 0 l near p.0 (none_before l (r q) y.now near p.0 p.1 near (omega arith)) (eq-eqb y.now (get_or l near 0) p.1))

-- ---- the marks are the tokens that came
own_at : (own : List ℕ) (t : ℕ) → is_among t own ≡ true → t ≡ get_or own (slot_of own t) 0
own_at own t e = eqb-true t (get_or own (slot_of own t) 0) (find_hit (eqb t) own 0 (ltb-true (slot_of own t) (length own) e))

slot_apart : (own : List ℕ) (t u : ℕ) → is_among t own ≡ true → is_among u own ≡ true → eqb u t ≡ false → slot_of own u ≡ slot_of own t → ⊥
slot_apart own t u a b n e = eqb-false u t n (own_at own u b ∙ ap (λ (i : ℕ). get_or own i 0) e ∙ sym (own_at own t a))

abbrev Marks : List ℕ → List ℕ → List Bool → Type 0
Marks own seen m = (t : ℕ) → is_among t own ≡ true → get_or m (slot_of own t) false ≡ is_among t seen

marks_on : (own seen : List ℕ) (m : List Bool) (t : ℕ) → length own ≤ length m → is_among t own ≡ true → Marks own seen m → Marks own (t ∷ seen) (set m (slot_of own t) true)
marks_on own seen m t h i k u j =
    let q = in_cons u t seen in
    caseB (eqb u t)
    (λ e. let z : u ≡ t = eqb-true u t e in
    rw (q, e, z) (get_or-set_same m (slot_of own t) true false (omega (arith, ltb-true (slot_of own t) (length own) i))))
    (λ e. rw (q, e) (get_or-set_other m (slot_of own t) (slot_of own u) true false (slot_apart own t u i j e) ∙ k u j))

-- each is expected, and its mark not set before
abbrev mark_each : List ℕ → List ℕ → List Bool → Bool
mark_each own [] m = true
mark_each own (t ∷ ts) m = is_among t own && not (get_or m (slot_of own t) false) && mark_each own ts (set m (slot_of own t) true)

mark_each_lem : (own l seen : List ℕ) (m : List Bool) → length own ≤ length m → Marks own seen m → mark_each own l m ≡ each_once own seen l
mark_each_lem own [] seen m h k = refl
mark_each_lem own (t ∷ ts) seen m h k = caseB (is_among t own)
    (λ e. let q = k t e in rw (e, q) (caseB (is_among t seen)
    (λ y. rw y)
    (λ y. rw y (mark_each_lem own ts (t ∷ seen) (set m (slot_of own t) true) (omega (arith, length-set m (slot_of own t) true)) (marks_on own seen m t h e k)))))
    (λ e. rw e)

-- the loop over the tokens that came back
module _ (own a b : List ℕ) where
  abbrev pub Marking : ℕ → List Bool → ℕ → Type 0
  Marking n m k = (n ≡ length a + length b) × (length m ≡ 128) × (mark_each own (drop k (a ++ b)) m ≡ each_once own [] (a ++ b))

  pub mark_start : (m : List Bool) → m ≡ replicate 128 false → length own ≤ 128 → mark_each own (drop 0 (a ++ b)) m ≡ each_once own [] (a ++ b)
  mark_start m e h =
      rw e (mark_each_lem own (a ++ b) [] (replicate 128 false) (omega (arith, length-replicate {A = Bool} 128 false))
      (λ t i. get_or-replicate 128 (slot_of own t) false false (omega (arith, ltb-true (slot_of own t) (length own) i))))

-- ---- as many as there are: all of them
abbrev hits : List ℕ → List ℕ → ℕ
hits own l = count (λ (u : ℕ). is_among u l) own

hits_more : (own l : List ℕ) (t : ℕ) → is_among t own ≡ true → is_among t l ≡ false → hits own l + 1 ≤ hits own (t ∷ l)
hits_more own l t i n =
    omega (
      arith,
      sum_pair (only (λ (u : ℕ). is_among u l) (λ x. 1)) (only (eqb t) (λ x. 1)) (only (λ (u : ℕ). is_among u (t ∷ l)) (λ x. 1)) own one,
      count_pos (eqb t) own (slot_of own t) 0 (ltb-true (slot_of own t) (length own) i) (find_hit (eqb t) own 0 (ltb-true (slot_of own t) (length own) i)),
    )
  where
    one : (u : ℕ) → only (λ (x : ℕ). is_among x l) (λ x. 1) u + only (eqb t) (λ x. 1) u ≤ only (λ (x : ℕ). is_among x (t ∷ l)) (λ x. 1) u
    one u = let c = in_cons u t l in caseB (eqb t u)
        (λ e. let z = eqb-true t u e in let m : is_among u l ≡ false = rw z at n in let y = eq-eqb u t (sym z) in rw (e, c, m, y) (omega arith))
        (λ e. let y = ne_eqb u t (λ z. eqb-false t u e (sym z)) in rw (e, c, y) (omega arith))

abbrev either : List ℕ → List ℕ → ℕ → Bool
either seen l u = is_among u seen || is_among u l

hits_each : (own l seen : List ℕ) → each_once own seen l ≡ true → hits own seen + length l ≤ count (either seen l) own
hits_each own [] seen e = omega (arith, sum_eq (only (λ (u : ℕ). is_among u seen) (λ x. 1)) (only (either seen []) (λ x. 1)) own (λ u. caseB (is_among u seen) (λ y. rw y) (λ y. rw y)))
hits_each own (t ∷ ts) seen e =
    let p = and3 (is_among t own) (not (is_among t seen)) (each_once own (t ∷ seen) ts) e in
    omega (
      arith,
      hits_more own seen t p.0 (not-true (is_among t seen) p.1),
      hits_each own ts (t ∷ seen) p.2,
      sum_eq (only (either (t ∷ seen) ts) (λ x. 1)) (only (either seen (t ∷ ts)) (λ x. 1)) own (λ u. ap (λ (b : Bool). cond {A = ℕ} b 1 0) (swap u)),
    )
  where
    flip : (a b c : Bool) → ((a || b) || c) ≡ (b || (a || c))
    flip true true c = refl
    flip true false c = refl
    flip false b c = refl

    swap : (u : ℕ) → either (t ∷ seen) ts u ≡ either seen (t ∷ ts) u
    swap u = ap (λ (b : Bool). b || is_among u ts) (in_cons u t seen) ∙ flip (eqb u t) (is_among u seen) (is_among u ts) ∙ ap (λ (b : Bool). is_among u seen || b) (sym (in_cons u t ts))

full_in : (own l : List ℕ) → length own ≤ hits own l → all_in own l ≡ true
full_in [] l = λ h. refl
full_in (x ∷ own) l = caseB (is_among x l)
    (λ e. rw e λ h. full_in own l (omega arith))
    (λ e. rw e λ h. absurd (omega (arith, count_most (λ (u : ℕ). is_among u l) own)))

full_each : (own l : List ℕ) → each_once own [] l ≡ true → length own ≤ length l → all_in own l ≡ true
full_each own l e h = full_in own l (omega (arith, hits_each own l [] e))

few_each : (own l : List ℕ) → each_once own [] l ≡ true → length l ≤ length own
few_each own l e = omega (arith, hits_each own l [] e, count_most (either [] l) own)

pub scope_few : (whole : Bool) (own a b : List ℕ) (c : Bool) → c ≡ in_scope whole own (a ++ b) → not c ≡ false → length own ≤ 128 → length a + length b ≤ 128
unfolding in_scope
scope_few whole own a b c e t h = omega (arith, few_each own (a ++ b) (both (each_once own [] (a ++ b)) _ (sym e ∙ not-false c t)).0, length-append a b, h)

-- ---- the whole check
module _ (whole : Bool) (own a b : List ℕ) where
  too_many : length own < length a + length b → false ≡ in_scope whole own (a ++ b)
  unfolding in_scope
  too_many h = caseB (each_once own [] (a ++ b)) (λ e. absurd (omega (arith, few_each own (a ++ b) e, length-append a b, h))) (λ e. rw e)

  pub scope_first : length own < length a → false ≡ in_scope whole own (a ++ b)
  scope_first h = too_many (omega arith)

  pub scope_second : length own < length b → false ≡ in_scope whole own (a ++ b)
  scope_second h = too_many (omega arith)

  module _ (r : Bool) (e : r ≡ each_once own [] (a ++ b)) where
    pub scope_not : not r ≡ true → false ≡ in_scope whole own (a ++ b)
    unfolding in_scope
    scope_not t = rw (← e, not-true r t)

    module _ (t : not r ≡ false) where
      pub scope_some : not whole ≡ true → true ≡ in_scope whole own (a ++ b)
      unfolding in_scope
      scope_some w = rw (← e, not-false r t, not-true whole w)

      pub scope_full : length own ≤ length a + length b → true ≡ in_scope whole own (a ++ b)
      unfolding in_scope
      scope_full h =
          let y : each_once own [] (a ++ b) ≡ true = sym e ∙ not-false r t in
          let f : all_in own (a ++ b) ≡ true = full_each own (a ++ b) y (omega (arith, length-append a b)) in
          rw (y, f) (sym (or-true (not whole)))

      pub scope_whole : (x : Bool) → not whole ≡ false → x ≡ all_in own (a ++ b) → x ≡ in_scope whole own (a ++ b)
      unfolding in_scope
      scope_whole x w ex = rw (← e, not-false r t, not-false whole w) ex

-- ---- all of them
pub all_among : (own l : List ℕ) (r : Bool) → r ≡ list_all (λ t. is_among t l) own → r ≡ all_in own l
all_among own l r e = e ∙ sym (same_from_clauses (λ o. all_in o l) (list_all (λ t. is_among t l)) (λ t b. is_among t l && b) refl (λ t ts. refl) (λ t ts. refl) own)

module _ (t : ℕ) (a b : List ℕ) (x : Bool) (ex : x ≡ is_among t a) where
  pub came_first : x ≡ true → x ≡ is_among t (a ++ b)
  came_first e = e ∙ sym (in_append t a b ∙ rw (← ex, e))

  pub came_second : (y : Bool) → x ≡ false → y ≡ is_among t b → y ≡ is_among t (a ++ b)
  came_second y e ey = sym (in_append t a b ∙ rw (← ex, e, ← ey))
