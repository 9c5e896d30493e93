-- The lists of a recovery's reply as parts of its words. Assumes nothing.
use Prim.Native.Nat.{ℕ, ◌+◌, ◌*◌, ◌/◌, ◌<◌, ◌≤◌, min}
use mathlib.Core.List.{List}
use mathlib.Core.Path.{◌≡◌, sym, ◌∙◌}
use native.Mathlib.Omega.{arith}
use native.Mathlib.Nat.{min-eq_left, min-eq_right}
use lib.ListN.{length, get_or, take, drop}
use lib.Seq.{drop-drop}
use Rattle.words.specs.Records.{part}
use Rattle.words.proofs.Parts.{take_cut, drop_cut}
use Rattle.scope.specs.Returned.{completion_words}
use Rattle.call_words.specs.Arguments.{read_completed, read_completions, read_aborted}

module _ (n most : ℕ) where
  pub words_most : most / 11 < n → most ≡ min (n * completion_words) most
  words_most h = let z : most ≤ n * completion_words = omega arith in sym (min-eq_right z)

  pub words_all : n ≤ most / 11 → n * 11 ≡ min (n * completion_words) most
  words_all h = let z : n * completion_words ≤ most = omega arith in sym (min-eq_left z)

-- ---- the lists of a recovery's reply
module _ (w from r : List ℕ) (n : ℕ) (en : n ≡ get_or w 8 0) (ef : from ≡ drop 10 w) where
  pub completed_is : r ≡ take n from → r ≡ read_completed w
  unfolding read_completed part
  completed_is e = e ∙ rw (ef, en)

  pub past_is : r ≡ drop n from → r ≡ drop (10 + get_or w 8 0) w
  past_is e = e ∙ rw (ef, en) (drop-drop (get_or w 8 0) 10 w)

module _ (w left r : List ℕ) (m n : ℕ) (el : left ≡ drop (10 + get_or w 8 0) w) (em : m ≡ get_or w 9 0)
    (en : n ≡ min (m * completion_words) (length left)) where
  pub completions_is : r ≡ take n left → r ≡ read_completions w
  unfolding read_completions part
  completions_is e = e ∙ rw (en, take_cut (m * completion_words) left, el, em)

  pub aborted_is : r ≡ drop n left → r ≡ read_aborted w
  unfolding read_aborted
  aborted_is e = e ∙ rw (en, drop_cut (m * completion_words) left, el, em, drop-drop (get_or w 9 0 * completion_words) (10 + get_or w 8 0) w)
