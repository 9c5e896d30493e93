-- Laws of what a reply brings, in words. Assumes nothing.
use Prim.Native.Nat.{ℕ, suc, ◌+◌, ◌-◌, ◌*◌, ◌/◌, ◌%◌, ◌<◌, ◌≤◌}
use mathlib.Core.Path.{◌≡◌, refl, sym, ap, ◌∙◌}
use mathlib.Core.Bool.{Bool, true, false, not, ◌||◌, true≢false, false≢true}
use mathlib.Core.List.{List}
use native.Mathlib.Omega.{arith}
use native.Mathlib.Numerals.{add-one}
use lib.Dec.{eqb}
use lib.ListN.{length, get_or, take, drop}
use lib.Seq.{take_all}
use borrow.Author.Tests.{eq-eqb, ne_eqb, eqb-true}
use Rattle.chain.specs.Lists.{sum_by}
use Rattle.chain.proofs.Lists.{sum_suc, sum_take}
use Rattle.words.specs.Records.{tab, part}
use Rattle.words.proofs.Records.{part-get_or, length-tab, get_or-tab}
use Rattle.scope.specs.Returned.{completion_words, read_brought, brought_at, given_of, lists_agree}
use Rattle.scope.specs.declared.{returned.Brought.Brought}

-- ---- one completion
module _ (w : List ℕ) where
  pub brought_is : (k : ℕ) (r : Brought) → r ≡ read_brought (take (k * completion_words + completion_words - k * completion_words) (drop (k * completion_words) w)) → r ≡ brought_at w k
  unfolding part brought_at
  brought_is k r e = let z : k * completion_words + completion_words - k * completion_words ≡ completion_words = omega arith in e ∙ rw z

  given_is : (k : ℕ) → (brought_at w k).given ≡ get_or w (k * completion_words + 10) 0
  unfolding read_brought brought_at
  given_is k = part-get_or 0 (k * completion_words) completion_words w 10 (omega arith)

-- ---- the data lengths
abbrev givens : List ℕ → ℕ → List Brought
givens w n = tab (brought_at w) n

abbrev pub Summed : List ℕ → ℕ → ℕ → ℕ → ℕ → Type 0
Summed w n size sum k = (sum ≤ size) × (sum ≡ sum_by given_of (take k (givens w n)))

module _ (w : List ℕ) (n size sum k : ℕ) (e : sum ≡ sum_by given_of (take k (givens w n))) where
  module _ (lt : k < n) where
    one_more : sum_by given_of (take (suc k) (givens w n)) ≡ sum + get_or w (k * completion_words + 10) 0
    one_more =
        sum_suc given_of (givens w n) k (brought_at w k) (omega (arith, length-tab (brought_at w) n))
        ∙ rw (← e, get_or-tab (brought_at w) n k (brought_at w k) lt, given_is w k)

    pub sum_on : sum + get_or w (k * completion_words + 10) 0 ≡ sum_by given_of (take (k + 1) (givens w n))
    sum_on = rw add-one (sym one_more)

    pub sum_over : sum ≤ size → size - sum < get_or w (k * completion_words + 10) 0 → false ≡ eqb (sum_by given_of (givens w n)) size
    sum_over h o = sym (ne_eqb (sum_by given_of (givens w n)) size (λ z. omega (arith, one_more, sum_take given_of (givens w n) (suc k))))

  pub sum_end : n ≤ k → eqb sum size ≡ eqb (sum_by given_of (givens w n)) size
  sum_end o = ap (λ (x : ℕ). eqb x size) (e ∙ ap (sum_by given_of) (take_all k (givens w n) (omega (arith, length-tab (brought_at w) n))))

-- ---- both lists
module _ (tokens w : List ℕ) (size : ℕ) where
  pub agree_not : (not (eqb (length w / completion_words) (length tokens)) || not (eqb (length w % completion_words) 0)) ≡ true → false ≡ lists_agree (length tokens) w size
  unfolding lists_agree
  agree_not t = rw (other (λ z. go z))
    where
      other : (length w ≡ length tokens * completion_words → ⊥) → eqb (length w) (length tokens * completion_words) ≡ false
      other f = ne_eqb (length w) (length tokens * completion_words) f

      go : length w ≡ length tokens * completion_words → ⊥
      go z =
          let a = eq-eqb (length w / completion_words) (length tokens) (omega arith) in
          let b = eq-eqb (length w % completion_words) 0 (omega arith) in
          let y : ◌≡◌ {A = Bool} false true = rw (a, b) at t in absurd (false≢true y)

  module _ (t : (not (eqb (length w / completion_words) (length tokens)) || not (eqb (length w % completion_words) 0)) ≡ false) where
    parts : (eqb (length w / completion_words) (length tokens) ≡ true) × (eqb (length w % completion_words) 0 ≡ true)
    parts = go (eqb (length w / completion_words) (length tokens)) (eqb (length w % completion_words) 0) t
      where
        go : (a b : Bool) → (not a || not b) ≡ false → (a ≡ true) × (b ≡ true)
        go true true e = (refl, refl)
        go true false e = absurd (true≢false e)
        go false b e = absurd (true≢false e)

    pub agree_words : length tokens * completion_words ≡ length w
    agree_words = omega (arith, eqb-true (length w / completion_words) (length tokens) parts.0, eqb-true (length w % completion_words) 0 parts.1)

    pub agree_sum : (b : Bool) → b ≡ eqb (sum_by given_of (givens w (length tokens))) size → b ≡ lists_agree (length tokens) w size
    unfolding lists_agree
    agree_sum b e = e ∙ rw (eq-eqb (length w) (length tokens * completion_words) (sym agree_words))
