-- Laws of answers as words. Assumes nothing.
use Rattle.std.specs.Prelude.{Option, Some, None}
use Prim.Native.Nat.{ℕ, suc, ◌+◌, ◌≤◌, ◌<◌}
use mathlib.Core.List.{List, [], ◌∷◌, ◌++◌}
use mathlib.Core.Path.{◌≡◌, refl, sym, ◌∙◌}
use lib.ListN.{length, take, drop, replicate, get_or}
use lib.Seq.{take-length}
use native.Mathlib.Omega.{arith}
use borrow.Author.Tests.{lt-ltb, le-ltb}
use Rattle.chain.proofs.Chain.{takes, passes}
use Rattle.words.specs.Records.{splice}
use Rattle.words.specs.Words.{flag_word, option_u32_word, option_i32_word}
use Rattle.models.specs.Codes.{category_word}
use Rattle.models.specs.Values.{option_error_words, request_id_words, device_id_words, metadata_tail}
use Rattle.models.specs.declared.{OperationError.OperationError, Refusal.Refusal, RequestReport.RequestReport, SetupPacket.SetupPacket}
use Rattle.standards.specs.Setup.{packet_of, setup_bytes}
use Rattle.rows.specs.Codec.{state_words}
use Rattle.rows.specs.Values.{state_tail}
use Rattle.rows.specs.declared.{codec.StateWords.StateWords}
use Rattle.checks.specs.Said.{stage_tail}
use Rattle.session.specs.Said.{recovery_word}
use Rattle.submissions.specs.declared.{PlanSubmission.PlanSubmission, Submission.Submission}
use Rattle.recovery.specs.declared.{AbortReport.AbortReport}
use Rattle.session.specs.declared.{Recovery.Recovery}
use Rattle.answer_words.specs.Encode.{refusal_words, begun_words, plan_words, report_words, recovering_words, recovered_words, written}

pub refusal_exact : (r : Refusal) (c o k : ℕ) → c ≡ category_word r.error.category → o ≡ option_i32_word r.error.os_code
    → k ≡ option_u32_word r.error.completion_code → 0 ∷ r.number ∷ c ∷ r.error.message ∷ o ∷ k ∷ [] ≡ refusal_words r
unfolding refusal_words
refusal_exact r c o k ec eo ek = rw (ec, eo, ek)

-- the first eight of a list, one by one
abbrev bytes_by : List ℕ → List ℕ
bytes_by l =
    get_or l 0 0 ∷ get_or l 1 0 ∷ get_or l 2 0 ∷ get_or l 3 0 ∷ get_or l 4 0 ∷ get_or l 5 0 ∷ get_or l 6 0 ∷ get_or l 7 0 ∷ []

-- parts of words, put one behind the other
module _ (m w₁ w₂ w : List ℕ) where
  pub begun_exact : (x : Submission) (h : ℕ) → m ≡ metadata_tail x.metadata [] → h ≡ flag_word x.has_packets
      → w₁ ≡ splice 0 (take 5 (2 ∷ request_id_words x.id ++ x.row ∷ [])) (replicate 19 0) → w₂ ≡ splice 5 (take 13 m) w₁
      → w ≡ splice 18 (take 1 (h ∷ [])) w₂ → w ≡ begun_words x
  unfolding begun_words splice
  begun_exact x h em eh e₁ e₂ e = e ∙ rw (e₂, e₁, em, eh)

  pub report_exact : (x : RequestReport) (s : StateWords) (c o : ℕ) (w₃ : List ℕ) → m ≡ metadata_tail x.metadata [] → s ≡ state_words x.state
      → c ≡ flag_word x.logical_cancel → o ≡ flag_word x.timed_out → w₁ ≡ splice 0 (take 4 (4 ∷ request_id_words x.id)) (replicate 26 0)
      → w₂ ≡ splice 4 (take 13 m) w₁ → w₃ ≡ splice 17 (take 7 (state_tail s [])) w₂ → w ≡ splice 24 (take 2 (c ∷ o ∷ [])) w₃ → w ≡ report_words x
  unfolding report_words splice
  report_exact x s c o w₃ em es ec eo e₁ e₂ e₃ e = e ∙ rw (e₃, e₂, e₁, em, es, ec, eo)

  pub plan_exact : (x : PlanSubmission) (q : SetupPacket) (t b w₃ : List ℕ) → m ≡ metadata_tail x.plan.metadata []
      → q ≡ packet_of x.plan.metadata.setup → b ≡ setup_bytes q → t ≡ stage_tail x.plan []
      → w₁ ≡ splice 0 (take 5 (3 ∷ request_id_words x.id ++ x.row ∷ [])) (replicate 30 0) → w₂ ≡ splice 5 (take 13 m) w₁ → w₃ ≡ splice 18 (take 4 t) w₂
      → w ≡ splice 22 (take 8 b) w₃ → w ≡ plan_words x
  unfolding plan_words setup_bytes splice
  plan_exact x q t b w₃ em eq eb et e₁ e₂ e₃ e = e ∙ rw (e₃, e₂, e₁, em, et, eb, eq)

pub recovering_exact : (x : Recovery) (k : ℕ) → k ≡ recovery_word x.kind
    → 9 ∷ request_id_words x.target ++ device_id_words x.device ++ x.endpoint ∷ k ∷ [] ≡ recovering_words x
unfolding recovering_words
recovering_exact x k e = rw e

-- the first five of a list, one by one
abbrev five_by : List ℕ → List ℕ
five_by l = get_or l 0 0 ∷ get_or l 1 0 ∷ get_or l 2 0 ∷ get_or l 3 0 ∷ get_or l 4 0 ∷ []

five_exact : (o : Option OperationError) → five_by (option_error_words o) ≡ option_error_words o
five_exact None = refl
five_exact (Some x) = refl

pub recovered_exact : (x : AbortReport) (f : ℕ) (l : List ℕ) → f ≡ flag_word x.restart_ready → l ≡ option_error_words x.error
    → 10 ∷ request_id_words x.target ++ device_id_words x.device ++ x.endpoint ∷ x.completed ∷ x.aborted ∷ f ∷ five_by l ≡ recovered_words x
unfolding recovered_words
recovered_exact x f l ef el = rw (ef, el, five_exact x.error)

-- the words and then zeros
pub put_on : (w out cleared after : List ℕ) → 32 ≤ length out → length w ≤ 32 → cleared ≡ splice 0 (replicate 32 0) out
    → after ≡ splice 0 (take (length w) w) cleared → after ≡ written w out
unfolding written
put_on w out cleared after h k ec ea =
    passes (List ℕ) _ _ _ _ (le-ltb _ _ h) (passes (List ℕ) _ _ _ _ (le-ltb _ _ k) (ea ∙ rw (ec, take-length w)))

-- a report's tag, and behind it its values
tag_first : (x y : ℕ) (v l : List ℕ) → splice 1 v (x ∷ l) ≡ splice 0 (x ∷ v) (y ∷ l)
unfolding splice
tag_first x y v l =
    let z : 1 + length v ≡ suc (length v) = omega arith in
    let o : 0 + suc (length v) ≡ suc (length v) = omega arith in
    rw (z, o)

-- the words and zeros
words_put : (w out : List ℕ) → 32 ≤ length out → length w ≤ 32 → written w out ≡ splice 0 w (0 ∷ (replicate 31 0 ++ drop 32 out))
unfolding written splice
words_put w out h k = sym (passes (List ℕ) _ _ _ _ (le-ltb _ _ h) (passes (List ℕ) _ _ _ _ (le-ltb _ _ k) refl))

-- the tag and zeros
tag_put : (out : List ℕ) → 32 ≤ length out → written (4 ∷ []) out ≡ 4 ∷ (replicate 31 0 ++ drop 32 out)
unfolding splice
tag_put out h = words_put (4 ∷ []) out h (omega arith)

pub report_put : (v out tagged after : List ℕ) → 32 ≤ length out → length v < 32 → tagged ≡ written (4 ∷ []) out
    → after ≡ splice 1 (take (length v) v) tagged → after ≡ written (4 ∷ v) out
report_put v out tagged after h k et ea =
    ea ∙ rw (take-length v, et, tag_put out h) (tag_first 4 0 v (replicate 31 0 ++ drop 32 out) ∙ sym (words_put (4 ∷ v) out h k))

pub report_long : (v out : List ℕ) → 32 ≤ length out → 32 ≤ length v → out ≡ written (4 ∷ v) out
unfolding written
report_long v out h k = passes (List ℕ) _ _ _ _ (le-ltb _ _ h) (takes (List ℕ) _ _ _ _ (lt-ltb 32 (suc (length v)) (omega arith)) refl)
