-- Laws of the loops over words that are 0 and over completions, and of the test of a recovery's reply. Assumes nothing.
use Prim.Native.Nat.{ℕ, zero, suc, ◌+◌, ◌-◌, ◌*◌, ◌/◌, ◌<◌, ◌≤◌}
use mathlib.Core.Bool.{Bool, true, false, ◌&&◌, ◌||◌}
use mathlib.Core.List.{List, ◌∷◌}
use mathlib.Core.Path.{◌≡◌, refl, sym, ap, ◌∙◌}
use native.Mathlib.Omega.{arith}
use native.Mathlib.Numerals.{add-one}
use native.Mathlib.Nat.{add-zero, zero-add}
use Rattle.std.specs.List.{range_with_len, list_all, list_any}
use Rattle.std.proofs.Math.Bool.{and-true}
use Rattle.std.proofs.lemmas.List.Recursion.{same_from_clauses}
use Rattle.std.proofs.lemmas.Bool.Decides.{nat_tests}
use Rattle.chain.specs.Lists.{find, any_in}
use Rattle.chain.proofs.Chain.{caseB, and_false}
use lib.ListN.{length, get_or, take, drop}
use lib.Dec.{ltb}
use borrow.Author.Tests.{lt-ltb, le-leb, lt-leb}
use Rattle.words.specs.Records.{part}
use Rattle.scope.specs.Returned.{completion_words}
use Rattle.call_words.specs.Parts.{is_zero, are_zero, is_completion}
use Rattle.call_words.specs.Form.{are_completions, is_recovered, is_recovery_reply}

-- words that are 0, of which the first k are known
zeros_from : (w : List ℕ) (at k n : ℕ) → (list_all (λ j. is_zero w (at + j)) (range_with_len k n) && are_zero w at k) ≡ are_zero w at (k + n)
zeros_from w at k zero = rw add-zero
zeros_from w at k (suc n) =
    let e : (k + 1) + n ≡ k + suc n = omega arith in
    turn (is_zero w (at + k)) (list_all (λ j. is_zero w (at + j)) (range_with_len (k + 1) n)) (are_zero w at k)
    ∙ ap (λ b. list_all (λ j. is_zero w (at + j)) (range_with_len (k + 1) n) && b) (sym (one_more k)) ∙ zeros_from w at (k + 1) n ∙ ap (are_zero w at) e
  where
    one_more : (k : ℕ) → are_zero w at (k + 1) ≡ (are_zero w at k && is_zero w (at + k))
    one_more k = rw add-one

    turn : (a b c : Bool) → ((a && b) && c) ≡ (b && (c && a))
    turn true b c = ap (λ d. b && d) (sym (and-true c))
    turn false true c = sym (and_false c)
    turn false false c = refl

pub all_zero : (w : List ℕ) (at n : ℕ) (r : Bool) → r ≡ list_all (λ j. is_zero w (at + j)) (range_with_len 0 n) → r ≡ are_zero w at n
all_zero w at n r e = e ∙ sym (and-true _) ∙ zeros_from w at 0 n ∙ ap (are_zero w at) (zero-add n)

-- a search for one that passes
pub any_in-list : (p : ℕ → Bool) (l : List ℕ) → any_in p l ≡ list_any p l
any_in-list p l = same_from_clauses (any_in p) (list_any p) (λ x b. p x || b) refl one_more (λ x xs. refl) l
  where
    same_ltb : (a b : ℕ) → ltb (suc a) (suc b) ≡ ltb a b
    same_ltb a b = grind (arith, nat_tests)

    one_more : (x : ℕ) (xs : List ℕ) → any_in p (x ∷ xs) ≡ (p x || any_in p xs)
    one_more x xs = caseB (p x) (λ e. rw e (lt-ltb 0 (length (x ∷ xs)) (omega arith))) (λ e. rw e (same_ltb (find p xs) (length xs)))

-- one completion more
pub completions_on : (w : List ℕ) (at k : ℕ) (good x : Bool) → good ≡ are_completions w at k
    → x ≡ is_completion (take (at + k * completion_words + completion_words - (at + k * completion_words)) (drop (at + k * completion_words) w))
    → (good && x) ≡ are_completions w at (k + 1)
unfolding part
completions_on w at k good x eg ex =
    let z : at + k * completion_words + completion_words - (at + k * completion_words) ≡ completion_words = omega arith in
    rw (add-one, eg, ex, z)

module _ (w : List ℕ) where
  too_long : length w < 10 + get_or w 8 0 + get_or w 9 0 * completion_words → false ≡ is_recovery_reply w
  unfolding is_recovery_reply
  too_long h = rw (lt-leb (10 + get_or w 8 0 + get_or w 9 0 * completion_words) (length w) h)

  pub reply_short : length w < 10 → false ≡ is_recovery_reply w
  reply_short h = too_long (omega arith)

  module _ (n m : ℕ) (en : n ≡ get_or w 8 0) where
    pub reply_tokens_lem : length w - 10 < n → false ≡ is_recovery_reply w
    reply_tokens_lem h = too_long (omega arith)

    module _ (em : m ≡ get_or w 9 0) where
      pub reply_completions : (length w - 10 - n) / 11 < m → false ≡ is_recovery_reply w
      reply_completions h = too_long (omega arith)

      pub reply_is : (a c : Bool) → 10 ≤ length w → n ≤ length w - 10 → m ≤ (length w - 10 - n) / 11 → a ≡ is_recovered w
          → c ≡ are_completions w (10 + n) m → (a && c) ≡ is_recovery_reply w
      unfolding is_recovery_reply
      reply_is a c h k l ea ec =
          let z : 10 + get_or w 8 0 + get_or w 9 0 * completion_words ≤ length w = omega arith in
          rw (le-leb (10 + get_or w 8 0 + get_or w 9 0 * completion_words) (length w) z, ea, ec, en, em)
