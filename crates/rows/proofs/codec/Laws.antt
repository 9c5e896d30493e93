-- Laws of a row's fields as words. Assumes nothing.
use Rattle.std.specs.Prelude.{Option}
use Prim.Native.Nat.{ℕ}
use mathlib.Core.Path.{◌≡◌, refl, ap, ◌∙◌}
use mathlib.Core.Bool.{Bool, true, false, cond}
use lib.Dec.{eqb}
use borrow.Author.Tests.{eqb-true}
use Rattle.chain.proofs.Chain.{caseB}
use Rattle.words.specs.Words.{read_flag, flag_word, option_u32_word, option_i32_word}
use Rattle.models.specs.Codes.{category_word}
use Rattle.models.specs.declared.{OperationError.OperationError, RequestState.RequestState}
use Rattle.models.specs.declared.RequestState.TheVariants.{Pending, Completed, Failed, Aborted}
use Rattle.rows.specs.Codec.{read_state_words, failed_words, state_words, kind_word, state_by_kind, kind_by, state_in, row_status, rest_of, row_status_words, status_words}
use Rattle.rows.specs.declared.{codec.StateWords.StateWords, codec.StatusWords.StatusWords}

-- the words of an error
pub failed_exact : (x : OperationError) (k : Option ℕ) (q : Bool) (a c d e f : ℕ) → a ≡ category_word x.category → c ≡ flag_word q
    → d ≡ option_i32_word x.os_code → e ≡ option_u32_word x.completion_code → f ≡ option_u32_word k
    → ◌≡◌ {A = StateWords} (record { tag = 2; a = a; b = x.message; c = c; d = d; e = e; f = f }) (failed_words x k q)
failed_exact x k q a c d e f ha hc hd he hf = rw (ha, hc, hd, he, hf)

-- a state's kind and its words in a row say what its words in a report say
kind_says : (s : RequestState) (w : StateWords) → w ≡ state_words s
    → state_by_kind (kind_word s) w.a w.b (cond (eqb (kind_word s) 2) w.c w.d) w.e w.f ≡ read_state_words w
kind_says (Pending cancel late) w e = rw e
kind_says (Completed actual code cancel) w e = rw e
kind_says (Failed x code true) w e = rw e
kind_says (Failed x code false) w e = rw e
kind_says Aborted w e = rw e

kind_some : (s : RequestState) → eqb (kind_word s) 0 ≡ false
kind_some (Pending cancel late) = refl
kind_some (Completed actual code cancel) = refl
kind_some (Failed x code true) = refl
kind_some (Failed x code false) = refl
kind_some Aborted = refl

kind_rest : (k a b d e f : ℕ) → state_by_kind (cond (eqb k 1) 0 k) a b d e f ≡ state_by_kind k a b d e f
kind_rest k a b d e f = caseB (eqb k 1) (λ y. rw y (rw (eqb-true k 1 y))) (λ y. rw y)

-- a row's status and the words of its state
status_back : (used : Bool) (s : RequestState) (k a b d e f : ℕ) → state_by_kind k a b d e f ≡ s → eqb k 0 ≡ false
    → (read_flag (row_status used k) ≡ used) × (state_by_kind (kind_by (row_status used k) (rest_of used k)) a b d e f ≡ s)
status_back true s k a b d e f h n = (rw n, rw n h)
status_back false s k a b d e f h n = (refl, kind_rest k a b d e f ∙ h)

pub status_exact : (used : Bool) (s : RequestState) (k : ℕ) (w : StateWords) (z : StatusWords)
    → read_state_words w ≡ s → w ≡ state_words s → k ≡ kind_word s → z ≡ row_status_words used k w
    → (read_flag z.status ≡ used) × (state_in z ≡ s) × (z ≡ status_words used s)
status_exact used s k w z h ew ek g =
    let e : z ≡ row_status_words used (kind_word s) w = rw ek at g in
    let b = status_back used s (kind_word s) w.a w.b (cond (eqb (kind_word s) 2) w.c w.d) w.e w.f (kind_says s w ew ∙ h) (kind_some s) in
    rw e (b.0, b.1, ap (row_status_words used (kind_word s)) ew)
