-- Laws of a session's own words. Assumes nothing.
use Prim.Native.Nat.{ℕ, zero, suc, ◌+◌, ◌-◌, ◌%◌, ◌<◌, ◌^◌}
use mathlib.Core.Bool.{Bool, true, false, ◌&&◌}
use mathlib.Core.List.{List, [], ◌∷◌, ◌++◌}
use mathlib.Core.Path.{◌≡◌, refl, sym, ap, ◌∙◌}
use lib.Dec.{eqb, ltb}
use lib.ListN.{length, get_or, replicate}
use lib.Seq.{ext_get_or}
use native.Mathlib.Omega.{arith}
use native.Mathlib.Nat.{le_of_suc-le-suc}
use borrow.Author.Tests.{eq-eqb, ne_eqb, eqb-true, eqb-false, le-ltb, ltb-true, ltb-false}
use Rattle.chain.proofs.Chain.{caseB, both, if_all}
use Rattle.words.specs.Words.{option_u64_words}
use Rattle.words.proofs.Options.{low}
use Rattle.models.specs.Codes.{read_controller, controller_word}
use Rattle.session.specs.Said.{recovery_word}
use Rattle.session_words.specs.State.{session_size, ports_words, ports_in, revision_in, stall_words, stall_in, read_kind, flight_words, flight_in, ports_tail, revision_tail, stall_tail, flight_tail, read_session, session_words, stands_at, is_session, Kept, kept_of, kept_as}

-- ---- words in a list
and_true : (a : Bool) → (a && true) ≡ a
and_true true = refl
and_true false = refl

and_assoc : (a b c : Bool) → (a && b && c) ≡ (a && (b && c))
and_assoc true b c = refl
and_assoc false b c = refl

stands_append : (w : List ℕ) (at : ℕ) (p q : List ℕ) → stands_at w at (p ++ q) ≡ (stands_at w at p && stands_at w (at + length p) q)
stands_append w at [] q = let z : at + 0 ≡ at = omega arith in rw z
stands_append w at (x ∷ p) q =
    let z : at + 1 + length p ≡ at + suc (length p) = omega arith in
    rw (stands_append w (at + 1) p q, z, and_assoc (eqb (get_or w at 0) x) (stands_at w (at + 1) p) (stands_at w (at + suc (length p)) q))

stands_told : (w : List ℕ) (at : ℕ) (p : List ℕ) (i : ℕ) → stands_at w at p ≡ true → i < length p → get_or p i 0 ≡ get_or w (at + i) 0
stands_told w at [] i h k = absurd (omega arith)
stands_told w at (x ∷ p) zero h k =
    let z : at + 0 ≡ at = omega arith in
    rw z (sym (eqb-true (get_or w at 0) x (both (eqb (get_or w at 0) x) (stands_at w (at + 1) p) h).0))
stands_told w at (x ∷ p) (suc i) h k =
    let z : at + 1 + i ≡ at + suc i = omega arith in
    stands_told w (at + 1) p i (both (eqb (get_or w at 0) x) (stands_at w (at + 1) p) h).1 (le_of_suc-le-suc k) ∙ rw z

stands_all : (w : List ℕ) (at : ℕ) (p : List ℕ) → ((i : ℕ) → i < length p → get_or w (at + i) 0 ≡ get_or p i 0) → stands_at w at p ≡ true
stands_all w at [] h = refl
stands_all w at (x ∷ p) h =
    let z : at + 0 ≡ at = omega arith in
    let e : get_or w at 0 ≡ x = rw z at (h 0 (omega arith)) in
    rw (eq-eqb (get_or w at 0) x e)
    (stands_all w (at + 1) p (λ i k. let y : at + 1 + i ≡ at + suc i = omega arith in rw y (h (suc i) (omega arith))))

-- ---- a word and what it says
same : (x : ℕ) → eqb x x ≡ true
same x = eq-eqb x x refl

byte_same : (x : ℕ) → eqb x (x % 2 ^ 8) ≡ ltb x 256
byte_same x =
    caseB (ltb x 256) (λ e. rw e (eq-eqb x (x % 256) (sym (low 8 (ltb-true x 256 e)))))
    (λ e. rw e (ne_eqb x (x % 256) (λ q. omega (arith, ltb-false x 256 e))))

kind_same : (k : ℕ) → eqb k (recovery_word (read_kind k)) ≡ ltb k 3
kind_same zero = refl
kind_same (suc zero) = refl
kind_same (suc (suc zero)) = refl
kind_same (suc (suc (suc n))) =
    let k = suc (suc (suc n)) in
    rw (ne_eqb k 0 (λ q. omega arith), ne_eqb (k - 1) 0 (λ q. omega arith)) (ne_eqb k 2 (λ q. omega arith) ∙ sym (le-ltb k 3 (omega arith)))

controller_same : (c : ℕ) → eqb c (controller_word (read_controller c)) ≡ ltb c 5
controller_same zero = refl
controller_same (suc zero) = refl
controller_same (suc (suc zero)) = refl
controller_same (suc (suc (suc zero))) = refl
controller_same (suc (suc (suc (suc zero)))) = refl
controller_same (suc (suc (suc (suc (suc n))))) =
    let c = suc (suc (suc (suc (suc n)))) in
    ne_eqb c 4 (λ q. omega arith) ∙ sym (le-ltb c 5 (omega arith))

-- ---- each part of a session's words that may be missing has the words of what it says
module _ (w : List ℕ) where
  abbrev ports_stand : Bool
  ports_stand = stands_at w 3 (ports_tail (ports_words (ports_in w)) [])

  abbrev revision_stands : Bool
  revision_stands = stands_at w 7 (revision_tail (option_u64_words (revision_in w)) [])

  abbrev stall_stands : Bool
  stall_stands = stands_at w 9 (stall_tail (stall_words (stall_in w)) [])

  abbrev flight_stands : Bool
  flight_stands = stands_at w 15 (flight_tail (flight_words (flight_in w)) [])

  module _ (p s c : ℕ) (ep : p ≡ get_or w 3 0) (es : s ≡ get_or w 4 0) (ec : c ≡ get_or w 5 0) where
    pub no_ports : p ≡ 0 → (eqb s 0 && eqb c 0) ≡ ports_stand
    no_ports e = rw (← ep, ← es, ← ec, e, and_true (eqb c 0))

    pub some_ports : (p ≡ 0 → ⊥) → (eqb p 1 && ltb c 256) ≡ ports_stand
    some_ports e = rw (← ep, ← es, ← ec, ne_eqb p 0 e, same s, byte_same c, and_true (ltb c 256))

  module _ (p v : ℕ) (ep : p ≡ get_or w 7 0) (ev : v ≡ get_or w 8 0) where
    pub no_revision : p ≡ 0 → eqb v 0 ≡ revision_stands
    no_revision e = rw (← ep, ← ev, e, and_true (eqb v 0))

    pub some_revision : (p ≡ 0 → ⊥) → eqb p 1 ≡ revision_stands
    some_revision e = rw (← ep, ← ev, ne_eqb p 0 e, same v, and_true (eqb p 1))

  pub five_zeros : (at a b c d e : ℕ) → a ≡ get_or w at 0 → b ≡ get_or w (at + 1) 0 → c ≡ get_or w (at + 2) 0 → d ≡ get_or w (at + 3) 0
      → e ≡ get_or w (at + 4) 0 → (eqb a 0 && eqb b 0 && eqb c 0 && eqb d 0 && eqb e 0) ≡ stands_at w at (0 ∷ 0 ∷ 0 ∷ 0 ∷ 0 ∷ [])
  five_zeros at a b c d e ea eb ec ed ee =
      let z2 : at + 1 + 1 ≡ at + 2 = omega arith in
      let z3 : at + 2 + 1 ≡ at + 3 = omega arith in
      let z4 : at + 3 + 1 ≡ at + 4 = omega arith in
      rw (z2, z3, z4, ea, eb, ec, ed, ee, and_true (eqb (get_or w (at + 4) 0) 0)) (simp and_assoc)

  module _ (p : ℕ) (ep : p ≡ get_or w 9 0) where
    pub no_stall : (z : Bool) → p ≡ 0 → z ≡ stands_at w 10 (0 ∷ 0 ∷ 0 ∷ 0 ∷ 0 ∷ []) → z ≡ stall_stands
    no_stall z e ez = ez ∙ rw (← ep, e)

    pub some_stall : (s e : ℕ) → (p ≡ 0 → ⊥) → s ≡ get_or w 13 0 → e ≡ get_or w 14 0
        → (eqb p 1 && ltb s 256 && ltb e 256) ≡ stall_stands
    some_stall s e h es ee =
        rw (← ep, ← es, ← ee, ne_eqb p 0 h, same (get_or w 10 0), same (get_or w 11 0), same (get_or w 12 0), byte_same s, byte_same e, and_true (ltb e 256))
        (and_assoc (eqb p 1) (ltb s 256) (ltb e 256))

  module _ (t : ℕ) (et : t ≡ get_or w 15 0) where
    pub recovery_own : (s e k : ℕ) → t ≡ 3 → s ≡ get_or w 21 0 → e ≡ get_or w 22 0 → k ≡ get_or w 23 0
        → (ltb s 256 && ltb e 256 && ltb k 3) ≡ flight_stands
    recovery_own s e k h es ee ek =
        rw (
          ← et,
          h,
          ← es,
          ← ee,
          ← ek,
          same (get_or w 16 0),
          same (get_or w 17 0),
          same (get_or w 18 0),
          same (get_or w 19 0),
          same (get_or w 20 0),
          byte_same s,
          byte_same e,
          kind_same k,
          and_true (ltb k 3),
        )
        (and_assoc (ltb s 256) (ltb e 256) (ltb k 3))

    module _ (z : Bool) (ez : z ≡ stands_at w 19 (0 ∷ 0 ∷ 0 ∷ 0 ∷ 0 ∷ [])) where
      pub nothing_own : (s g q : ℕ) → t ≡ 0 → s ≡ get_or w 16 0 → g ≡ get_or w 17 0 → q ≡ get_or w 18 0
          → (eqb s 0 && eqb g 0 && eqb q 0 && z) ≡ flight_stands
      nothing_own s g q h es eg eq = rw (← et, h, es, eg, eq, ez) (simp and_assoc)

      submission_own : t ≡ 1 → (ltb t 3 && z) ≡ flight_stands
      submission_own e = rw (← et, e, ez, same (get_or w 16 0), same (get_or w 17 0), same (get_or w 18 0))

      poll_own : t ≡ 2 → (ltb t 3 && z) ≡ flight_stands
      poll_own e = rw (← et, e, ez, same (get_or w 16 0), same (get_or w 17 0), same (get_or w 18 0))

      pub id_own : (t ≡ 3 → ⊥) → (t ≡ 0 → ⊥) → (ltb t 3 && z) ≡ flight_stands
      id_own h3 h0 =
          caseB (eqb t 1) (λ e. submission_own (eqb-true t 1 e))
          (λ e. caseB (eqb t 2) (λ f. poll_own (eqb-true t 2 f))
          (λ f. let h1 = eqb-false t 1 e in let h2 = eqb-false t 2 f in rw (← et, ne_eqb t 0 h0, e, f, ne_eqb t 3 h3, le-ltb t 3 (omega arith))))

  -- the parts together
  module _ (c : ℕ) (b r s f : Bool) (ec : c ≡ get_or w 6 0) (eb : b ≡ ports_stand)
      (er : r ≡ revision_stands)
      (es : s ≡ stall_stands) (ef : f ≡ flight_stands) where
    abbrev from15 : List ℕ
    from15 = flight_tail (flight_words (flight_in w)) [] ++ (get_or w 24 0 ∷ get_or w 25 0 ∷ [])

    abbrev from9 : List ℕ
    from9 = stall_tail (stall_words (stall_in w)) [] ++ from15

    abbrev from7 : List ℕ
    from7 = revision_tail (option_u64_words (revision_in w)) [] ++ from9

    abbrev from3 : List ℕ
    from3 = ports_tail (ports_words (ports_in w)) [] ++ (controller_word (read_controller (get_or w 6 0)) ∷ from7)

    own15 : stands_at w 15 from15 ≡ f
    own15 =
        stands_append w 15 (flight_tail (flight_words (flight_in w)) []) (get_or w 24 0 ∷ get_or w 25 0 ∷ [])
        ∙ rw (← ef, same (get_or w 24 0), same (get_or w 25 0)) (and_true f)

    own9 : stands_at w 9 from9 ≡ (s && f)
    own9 = stands_append w 9 (stall_tail (stall_words (stall_in w)) []) from15 ∙ rw (← es, own15)

    own7 : stands_at w 7 from7 ≡ (r && (s && f))
    own7 = stands_append w 7 (revision_tail (option_u64_words (revision_in w)) []) from9 ∙ rw (← er, own9)

    own3 : stands_at w 3 from3 ≡ (b && (ltb c 5 && (r && (s && f))))
    own3 =
        stands_append w 3 (ports_tail (ports_words (ports_in w)) []) (controller_word (read_controller (get_or w 6 0)) ∷ from7)
        ∙ rw (← eb, controller_same (get_or w 6 0), ← ec, own7)

    pub session_own : (eqb (length w) 26 && b && ltb c 5 && r && s && f) ≡ is_session w
    unfolding is_session session_words read_session
    session_own =
        let z : stands_at w 0 (session_words (read_session w)) ≡ stands_at w 3 from3 = rw (same (get_or w 0 0), same (get_or w 1 0), same (get_or w 2 0)) in
        simp and_assoc (ap (λ (x : Bool). eqb (length w) 26 && x) (sym (z ∙ own3)))

-- ---- the words that pass the test
words_many : (w : List ℕ) → length (session_words (read_session w)) ≡ session_size
unfolding session_words
words_many w = refl

module _ (w : List ℕ) where
  pub own_words : is_session w ≡ true → session_words (read_session w) ≡ w
  unfolding is_session
  own_words h =
      let p = both (eqb (length w) session_size) (stands_at w 0 (session_words (read_session w))) h in
      let n : length w ≡ 26 = eqb-true (length w) 26 p.0 in
      ext_get_or 0 (session_words (read_session w)) w (words_many w ∙ sym n)
      (λ i k. let z : 0 + i ≡ i = omega arith in rw z at (stands_told w 0 (session_words (read_session w)) i p.1 k))

  pub words_own : session_words (read_session w) ≡ w → is_session w ≡ true
  unfolding is_session
  words_own e =
      let n : length w ≡ 26 = sym (ap length e) ∙ words_many w in
      let s : stands_at w 0 (session_words (read_session w)) ≡ true =
      stands_all w 0 (session_words (read_session w)) (λ i k. let z : 0 + i ≡ i = omega arith in rw z (ap (λ (l : List ℕ). get_or l i 0) (sym e))) in
      rw (eq-eqb (length w) 26 n, s)

  -- a session that is written to the words that said it changes none of them
  pub written_same : is_session w ≡ true → kept_as w (read_session w) ≡ kept_of w
  unfolding kept_as kept_of
  written_same h = if_all (λ (k : Kept). k ≡ kept_of w) _ _ _ refl (rw (own_words h))

-- zeros are a session's own words
pub zeros_own : is_session (replicate session_size 0) ≡ true
unfolding is_session session_words read_session
zeros_own = refl
