-- Laws of sums, counts, searches and changes over a list. Assumes nothing.
use Rattle.std.specs.Prelude.{Option, Some, None}
use mathlib.Core.Path.{◌≡◌, refl, sym, ap, ◌∙◌}
use mathlib.Core.Bool.{Bool, true, false, cond, true≢false, ◌||◌, or_assoc}
use mathlib.Core.List.{List, [], ◌∷◌, ◌++◌, map}
use Prim.Native.Nat.{ℕ, zero, suc, ◌+◌, ◌≤◌, ◌<◌}
use native.Mathlib.Omega.{arith}
use native.Mathlib.Nat.{le_of_suc-le-suc}
use lib.ListN.{length, get_or, set, take, length-set}
use lib.Seq.{get_or-set_same}
use lib.Dec.{eqb}
use borrow.Author.Tests.{eq-eqb, eqb-true, lt-ltb, le-ltb, ltb-true, ltb-false}
use Rattle.chain.specs.Lists.{sum_by, only, count, map_at, find, any_in, found_in, is_among, all_in}
use Rattle.chain.proofs.Chain.{caseB, both}

module _ {A : Type 0} where
  pub sum_eq : (f g : A → ℕ) (l : List A) → ((x : A) → f x ≡ g x) → sum_by f l ≡ sum_by g l
  sum_eq f g [] h = refl
  sum_eq f g (x ∷ xs) h = omega (arith, h x, sum_eq f g xs h)

  pub sum_le : (f g : A → ℕ) (l : List A) → ((x : A) → f x ≤ g x) → sum_by f l ≤ sum_by g l
  sum_le f g [] h = omega arith
  sum_le f g (x ∷ xs) h = omega (arith, h x, sum_le f g xs h)

  pub sum_set : (f : A → ℕ) (l : List A) (i : ℕ) (r d : A) → i < length l → sum_by f (set l i r) + f (get_or l i d) ≡ sum_by f l + f r
  sum_set f [] i r d h = omega arith
  sum_set f (x ∷ xs) zero r d h = omega arith
  sum_set f (x ∷ xs) (suc i) r d h = omega (arith, sum_set f xs i r d (le_of_suc-le-suc h))

  pub sum_at : (h : A → ℕ) (p : A → Bool) (f : A → A) (l : List A)
      → sum_by h (map_at p f l) + sum_by (only p h) l ≡ sum_by h l + sum_by (only p (λ x. h (f x))) l
  sum_at h p f [] = refl
  sum_at h p f (x ∷ xs) =
      let ih = sum_at h p f xs in
      caseB (p x) (λ e. rw e (omega arith)) (λ e. rw e (omega arith))

  pub sum_none : (p : A → Bool) (h : A → ℕ) (l : List A) → count p l ≡ 0 → sum_by (only p h) l ≡ 0
  sum_none p h [] = λ e. refl
  sum_none p h (x ∷ xs) = caseB (p x) (λ e. rw e λ k. omega arith) (λ e. rw e λ k. omega (arith, sum_none p h xs (omega arith)))

  pub count_pos : (p : A → Bool) (l : List A) (i : ℕ) (d : A) → i < length l → p (get_or l i d) ≡ true → 1 ≤ count p l
  count_pos p [] i d h e = omega arith
  count_pos p (x ∷ xs) zero d h e = rw e (omega arith)
  count_pos p (x ∷ xs) (suc i) d h e = omega (arith, count_pos p xs i d (le_of_suc-le-suc h) e)

  pub count_most : (p : A → Bool) (l : List A) → count p l ≤ length l
  count_most p [] = omega arith
  count_most p (x ∷ xs) = caseB (p x) (λ e. rw e (omega (arith, count_most p xs))) (λ e. rw e (omega (arith, count_most p xs)))

  pub record Witness (p : A → Bool) (l : List A) (d : A) : Type 0 where
    pub index : ℕ
    pub below : index < length l
    pub passes : p (get_or l index d) ≡ true

  pub count_found : (p : A → Bool) (l : List A) (d : A) → 1 ≤ count p l → Witness p l d
  count_found p [] d = λ h. absurd (omega arith)
  count_found p (x ∷ xs) d =
      caseB (p x) (λ e. λ h. record { index = 0; below = omega arith; passes = e })
      (λ e. rw e λ h. let k = count_found p xs d (omega arith) in record { index = suc k.index; below = omega arith; passes = k.passes })

  -- where one element at most passes the test, the sum over those that pass is that element's
  pub sum_one : (p : A → Bool) (h : A → ℕ) (l : List A) (i : ℕ) (d : A) → i < length l → p (get_or l i d) ≡ true → count p l ≤ 1
      → sum_by (only p h) l ≡ h (get_or l i d)
  sum_one p h [] i d b e = λ k. absurd (omega arith)
  sum_one p h (x ∷ xs) zero d b e = rw e λ k. omega (arith, sum_none p h xs (omega arith))
  sum_one p h (x ∷ xs) (suc i) d b e =
      caseB (p x) (λ y. rw y λ k. absurd (omega (arith, count_pos p xs i d (le_of_suc-le-suc b) e)))
      (λ y. rw y λ k. omega (arith, sum_one p h xs i d (le_of_suc-le-suc b) e (omega arith)))

  pub sum_pair : (f g h : A → ℕ) (l : List A) → ((x : A) → f x + g x ≤ h x) → sum_by f l + sum_by g l ≤ sum_by h l
  sum_pair f g h [] k = omega arith
  sum_pair f g h (x ∷ xs) k = omega (arith, k x, sum_pair f g h xs k)

  -- an element's own number is part of the sum
  pub sum_part : (f : A → ℕ) (l : List A) (i : ℕ) (d : A) → i < length l → f (get_or l i d) ≤ sum_by f l
  sum_part f [] i d h = absurd (omega arith)
  sum_part f (x ∷ xs) zero d h = omega arith
  sum_part f (x ∷ xs) (suc i) d h = omega (arith, sum_part f xs i d (le_of_suc-le-suc h))

  pub count_keeps : (p q : A → Bool) (f : A → A) (l : List A) → ((x : A) → p (f x) ≡ p x) → count p (map_at q f l) ≡ count p l
  count_keeps p q f [] h = refl
  count_keeps p q f (x ∷ xs) h =
      let ih = count_keeps p q f xs h in
      let k = h x in
      caseB (q x) (λ e. rw (e, k) (omega arith)) (λ e. rw e (omega arith))

  -- what passes a test that the default fails stands inside the list
  pub inside : (p : A → Bool) (l : List A) (i : ℕ) (d : A) → p d ≡ false → p (get_or l i d) ≡ true → i < length l
  inside p [] i d h e = let z : ◌≡◌ {A = Bool} true false = sym e ∙ h in absurd (true≢false z)
  inside p (x ∷ xs) zero d h e = omega arith
  inside p (x ∷ xs) (suc i) d h e = omega (arith, inside p xs i d h e)

  pub find_hit : (p : A → Bool) (l : List A) (d : A) → find p l < length l → p (get_or l (find p l) d) ≡ true
  find_hit p [] d = λ h. absurd (omega arith)
  find_hit p (x ∷ xs) d = caseB (p x) (λ e. rw e λ h. e) (λ e. rw e λ h. find_hit p xs d (le_of_suc-le-suc h))

  pub find_some : (p : A → Bool) (l : List A) → 1 ≤ count p l → find p l < length l
  find_some p [] = λ h. absurd (omega arith)
  find_some p (x ∷ xs) = caseB (p x) (λ e. rw e λ h. omega arith) (λ e. rw e λ h. omega (arith, find_some p xs (omega arith)))

  pub sum_two : (f g h : A → ℕ) (l : List A) → ((x : A) → f x ≤ g x + h x) → sum_by f l ≤ sum_by g l + sum_by h l
  sum_two f g h [] k = omega arith
  sum_two f g h (x ∷ xs) k = omega (arith, k x, sum_two f g h xs k)

  pub map_at_none : (p : A → Bool) (f : A → A) (l : List A) → count p l ≡ 0 → map_at p f l ≡ l
  map_at_none p f [] = λ k. refl
  map_at_none p f (x ∷ xs) = caseB (p x) (λ e. rw e λ k. absurd (omega arith)) (λ e. rw e λ k. ap {B = List A} (λ r. x ∷ r) (map_at_none p f xs (omega arith)))

  -- where one element at most passes, to change it there is to change every element that passes
  pub set-map_at : (p : A → Bool) (f : A → A) (l : List A) (i : ℕ) (d : A) → i < length l → p (get_or l i d) ≡ true → count p l ≤ 1
      → set l i (f (get_or l i d)) ≡ map_at p f l
  set-map_at p f [] i d h e = λ k. absurd (omega arith)
  set-map_at p f (x ∷ xs) zero d h e = rw e λ k. ap {B = List A} (λ r. f x ∷ r) (sym (map_at_none p f xs (omega arith)))
  set-map_at p f (x ∷ xs) (suc i) d h e =
      caseB (p x) (λ y. rw y λ k. absurd (omega (arith, count_pos p xs i d (le_of_suc-le-suc h) e)))
      (λ y. rw y λ k. ap {B = List A} (λ r. x ∷ r) (set-map_at p f xs i d (le_of_suc-le-suc h) e (omega arith)))

  pub count_less : (p q : A → Bool) (f : A → A) (l : List A) → ((x : A) → q x ≡ true → only p (λ y. 1) (f x) ≤ only p (λ y. 1) x) → count p (map_at q f l) ≤ count p l
  count_less p q f [] h = omega arith
  count_less p q f (x ∷ xs) h =
      let ih = count_less p q f xs h in
      caseB (q x) (λ e. let k = h x e in rw e (omega arith)) (λ e. rw e (omega arith))

  pub map-map_at : (g : A → A) (p : A → Bool) (f : A → A) (l : List A) → map g (map_at p f l) ≡ map (λ x. g (cond (p x) (f x) x)) l
  map-map_at g p f [] = refl
  map-map_at g p f (x ∷ xs) = ap {B = List A} (λ r. g (cond (p x) (f x) x) ∷ r) (map-map_at g p f xs)

  pub map_same : (g h : A → A) (l : List A) → ((i : ℕ) (d : A) → i < length l → g (get_or l i d) ≡ h (get_or l i d)) → map g l ≡ map h l
  map_same g h [] k = refl
  map_same g h (x ∷ xs) k =
      let a = k 0 x (omega arith) in
      let b = map_same g h xs (λ i d n. k (suc i) d (omega arith)) in cc

  -- one element more of a sum
  pub sum_suc : (f : A → ℕ) (l : List A) (i : ℕ) (d : A) → i < length l → sum_by f (take (suc i) l) ≡ sum_by f (take i l) + f (get_or l i d)
  sum_suc f [] i d h = absurd (omega arith)
  sum_suc f (x ∷ xs) zero d h = omega arith
  sum_suc f (x ∷ xs) (suc i) d h = omega (arith, sum_suc f xs i d (le_of_suc-le-suc h))

  -- a part's sum is at most the whole's
  pub sum_take : (f : A → ℕ) (l : List A) (i : ℕ) → sum_by f (take i l) ≤ sum_by f l
  sum_take f [] zero = omega arith
  sum_take f [] (suc i) = omega arith
  sum_take f (x ∷ xs) zero = omega arith
  sum_take f (x ∷ xs) (suc i) = omega (arith, sum_take f xs i)

  -- inside a list the default does not matter
  pub get_or-any : (l : List A) (i : ℕ) (a b : A) → i < length l → get_or l i a ≡ get_or l i b
  get_or-any [] i a b h = absurd (omega arith)
  get_or-any (x ∷ xs) zero a b h = refl
  get_or-any (x ∷ xs) (suc i) a b h = get_or-any xs i a b (le_of_suc-le-suc h)

  pub find_le : (p : A → Bool) (l : List A) → find p l ≤ length l
  find_le p [] = omega arith
  find_le p (x ∷ xs) = caseB (p x) (λ e. rw e (omega arith)) (λ e. rw e (omega (arith, find_le p xs)))

  pub find_all : (p : A → Bool) (l : List A) (d : A) → ((i : ℕ) → i < length l → p (get_or l i d) ≡ false) → find p l ≡ length l
  find_all p [] d h = refl
  find_all p (x ∷ xs) d h = rw (h 0 (omega arith)) (ap suc (find_all p xs d (λ i k. h (suc i) (omega arith))))

  -- a search that has come to i, past elements that fail, with `i ≤ find p l` for its invariant
  module _ (p : A → Bool) (d : A) where
    pub find_on : (l : List A) (i : ℕ) → i < length l → i ≤ find p l → p (get_or l i d) ≡ false → i + 1 ≤ find p l
    find_on [] i h = λ k e. absurd (omega arith)
    find_on (x ∷ xs) zero h = λ k e. rw e (omega arith)
    find_on (x ∷ xs) (suc i) h =
        caseB (p x) (λ y. rw y λ k e. absurd (omega arith)) (λ y. rw y λ k e. omega (arith, find_on xs i (le_of_suc-le-suc h) (omega arith) e))

    pub find_here : (l : List A) (i : ℕ) → i < length l → i ≤ find p l → p (get_or l i d) ≡ true → find p l ≡ i
    find_here [] i h = λ k e. absurd (omega arith)
    find_here (x ∷ xs) zero h = λ k e. rw e
    find_here (x ∷ xs) (suc i) h =
        caseB (p x) (λ y. rw y λ k e. absurd (omega arith)) (λ y. rw y λ k e. ap suc (find_here xs i (le_of_suc-le-suc h) (omega arith) e))

  -- what the search answers where it stops
  pub found_at : (p : A → Bool) (l : List A) (i : ℕ) (d : A) → i < length l → i ≤ find p l → p (get_or l i d) ≡ true → Some i ≡ found_in p l
  unfolding found_in
  found_at p l i d h k e = let z = find_here p d l i h k e in rw (lt-ltb (find p l) (length l) (omega arith), z)

  pub found_none : (p : A → Bool) (l : List A) (i : ℕ) → length l ≤ i → i ≤ find p l → None ≡ found_in p l
  unfolding found_in
  found_none p l i h k = rw (le-ltb (find p l) (length l) (omega arith))

  -- and what a caller knows of the place that was found
  pub record Place (p : A → Bool) (l : List A) (d : A) (i : ℕ) : Type 0 where
    pub below : i < length l
    pub passes : p (get_or l i d) ≡ true
    pub index : i ≡ find p l

  pub place : (p : A → Bool) (l : List A) (d : A) (f : Option ℕ) (i : ℕ) → f ≡ found_in p l → f ≡ Some i → Place p l d i
  unfolding found_in
  place p l d f i ef e =
      caseB (any_in p l)
      (λ y. let z : Some (find p l) ≡ Some i = sym (rw y at ef) ∙ e in
      let q : i ≡ find p l = cc in
      let h : find p l < length l = ltb-true (find p l) (length l) y in
      record { below = omega arith; passes = rw q (find_hit p l d h); index = q })
      (λ y. let z : None ≡ Some i = sym (rw y at ef) ∙ e in let n : ◌≡◌ {A = ℕ} 0 1 = cc in absurd (omega arith))

  -- the place stays where what passes is put there
  find-set : (p : A → Bool) (l : List A) (i : ℕ) (r : A) → i < length l → i ≤ find p l → p r ≡ true → find p (set l i r) ≡ i
  find-set p [] i r h = λ k e. absurd (omega arith)
  find-set p (x ∷ xs) zero r h = λ k e. rw e
  find-set p (x ∷ xs) (suc i) r h =
      caseB (p x) (λ y. rw y λ k e. absurd (omega arith)) (λ y. rw y λ k e. ap suc (find-set p xs i r (le_of_suc-le-suc h) (omega arith) e))

  pub found_set : (p : A → Bool) (l : List A) (i : ℕ) (r d : A) → found_in p l ≡ Some i → p r ≡ true → found_in p (set l i r) ≡ Some i
  found_set p l i r d f e =
      let z = place p l d (Some i) i (sym f) refl in
      let k : find p (set l i r) ≡ i = find-set p l i r z.below (omega (arith, z.index)) e in
      sym (found_at p (set l i r) i d (omega (arith, z.below, length-set l i r)) (omega arith) (rw (get_or-set_same l i r d z.below) e))

-- ---- numbers in a list
pub in_cons : (u t : ℕ) (l : List ℕ) → is_among u (t ∷ l) ≡ (eqb u t || is_among u l)
in_cons u t l = caseB (eqb u t)
    (λ e. rw e (lt-ltb 0 (suc (length l)) (omega arith)))
    (λ e. rw e (caseB (is_among u l)
    (λ y. rw y (lt-ltb (suc (find (eqb u) l)) (suc (length l)) (omega (arith, ltb-true (find (eqb u) l) (length l) y))))
    (λ y. rw y (le-ltb (suc (find (eqb u) l)) (suc (length l)) (omega (arith, ltb-false (find (eqb u) l) (length l) y))))))

pub in_head : (t : ℕ) (l : List ℕ) → is_among t (t ∷ l) ≡ true
in_head t l = let s = eq-eqb t t refl in in_cons t t l ∙ rw s

pub in_append : (t : ℕ) (a b : List ℕ) → is_among t (a ++ b) ≡ (is_among t a || is_among t b)
in_append t [] b = refl
in_append t (x ∷ a) b = in_cons t x (a ++ b) ∙ ap (λ (z : Bool). eqb t x || z) (in_append t a b) ∙ sym (or_assoc (eqb t x) (is_among t a) (is_among t b))
    ∙ ap (λ (z : Bool). z || is_among t b) (sym (in_cons t x a))

pub all_in_lem : (l ts : List ℕ) (t : ℕ) → all_in l ts ≡ true → is_among t l ≡ true → is_among t ts ≡ true
all_in_lem [] ts t a e = absurd (true≢false (sym e))
all_in_lem (u ∷ us) ts t a e =
    let p = both (is_among u ts) (all_in us ts) a in
    let q : (eqb t u || is_among t us) ≡ true = sym (in_cons t u us) ∙ e in
    caseB (eqb t u)
    (λ y. let z = eqb-true t u y in rw z p.0)
    (λ y. all_in_lem us ts t p.1 (rw y at q))
