-- An answer's words tell it whole, and so do the 32 words of `out`. Assumes nothing.
use Rattle.std.specs.Prelude.{Option, Some, None}
use Prim.Native.Nat.{ℕ, ◌+◌, ◌-◌, ◌<◌, ◌≤◌}
use mathlib.Core.Bool.{Bool, true, false}
use mathlib.Core.List.{List, [], ◌++◌}
use mathlib.Core.Path.{◌≡◌, refl, sym, ap, ◌∙◌}
use mathlib.Core.Logic.{⊎_elim}
use lib.ListN.{length, get_or, take, drop, replicate, length-replicate, get_or-replicate, get_or-append, get_or-eq_default}
use lib.Seq.{get_or-take, get_or-drop, get_or-append-add}
use native.Mathlib.Omega.{arith}
use borrow.Author.Tests.{le-ltb}
use Rattle.chain.specs.Chain.{◌if◌else◌}
use Rattle.chain.proofs.Chain.{passes}
use Rattle.words.specs.Records.{tab, splice}
use Rattle.words.specs.Words.{flag_word, read_flag}
use Rattle.words.proofs.Options.{low, flag_back}
use Rattle.words.proofs.Records.{tab_same, le_or_lt}
use Rattle.models.specs.Values.{option_error_words, metadata_tail, read_device_words}
use Rattle.models.specs.declared.{ControlProfile.ControlProfile, DeviceId.DeviceId, Direction.Direction, OperationError.OperationError, Refusal.Refusal, RequestMetadata.RequestMetadata, RequestReport.RequestReport, RequestState.RequestState}
use Rattle.models.proofs.Enums.{transfer_back, direction_back, profile_back}
use Rattle.standards.specs.Setup.{setup_bytes}
use Rattle.rows.specs.Codec.{read_metadata, read_state_words, state_words}
use Rattle.session.specs.Said.{recovery_word}
use Rattle.session.specs.declared.{Recovery.Recovery, RecoveryKind.RecoveryKind}
use Rattle.session_words.specs.State.{read_kind}
use Rattle.submissions.specs.declared.{PlanSubmission.PlanSubmission, Submission.Submission}
use Rattle.recovery.specs.declared.{AbortReport.AbortReport}
use Rattle.calls.specs.Fits.{ErrorFits, OptionErrorFits, DeviceFits}
use Rattle.calls.specs.declared.{Answer.Answer}
use Rattle.calls.proofs.Fits.{u32_back, error_back, option_error_back, setup_back}
use Rattle.answer_words.specs.Encode.{answer_size, refusal_words, begun_words, plan_words, report_words, recovering_words, recovered_words, answer_words, written}
use Rattle.answer_words.specs.Read.{read_answer, MetadataFits, StateFits, AnswerFits}

-- ---- what a value's word says is the value
kind_back : (k : RecoveryKind) → read_kind (recovery_word k) ≡ k
kind_back RecoveryKind.Abort = refl
kind_back (RecoveryKind.Reset true) = refl
kind_back (RecoveryKind.Reset false) = refl

device_back : (d : DeviceId) → DeviceFits d → read_device_words d.session d.generation d.slot ≡ d
device_back d h = rw (low 8 h)

metadata_back : (m : RequestMetadata) → MetadataFits m → read_metadata (metadata_tail m []) ≡ m
unfolding read_metadata
metadata_back m (d, e, s) =
    rw (low 8 d, low 8 e, transfer_back m.transfer_type, direction_back m.direction, setup_back m.setup s)

state_back : (s : RequestState) → StateFits s → read_state_words (state_words s) ≡ s
state_back (RequestState.Pending cancel late) h = rw (flag_back cancel, flag_back late)
state_back (RequestState.Completed actual code cancel) h = rw (low 32 h, flag_back cancel)
state_back (RequestState.Failed e code quiescent) (h, k) = rw (error_back e h, u32_back code k, flag_back quiescent)
state_back RequestState.Aborted h = refl

-- ---- and what an answer's words say is the answer
refused_back : (r : Refusal) → ErrorFits r.error → read_answer (refusal_words r) ≡ Answer.Refused r
unfolding read_answer refusal_words ◌if◌else◌
refused_back r h = ap (λ (e : OperationError). Answer.Refused (record { number = r.number; error = e })) (error_back r.error h)

begun_back : (x : Submission) → MetadataFits x.metadata → read_answer (begun_words x) ≡ Answer.Begun x
unfolding read_answer begun_words ◌if◌else◌
begun_back x h =
    let f : RequestMetadata → Bool → Answer = λ m p. Answer.Begun (record { id = x.id; row = x.row; metadata = m; has_packets = p }) in
    ap (λ (m : RequestMetadata). f m (read_flag (flag_word x.has_packets))) (metadata_back x.metadata h) ∙ ap (f x.metadata) (flag_back x.has_packets)

plan_back : (x : PlanSubmission) → MetadataFits x.plan.metadata → read_answer (plan_words x) ≡ Answer.PlanBegun x
unfolding read_answer plan_words ◌if◌else◌
plan_back x h =
    let p = x.plan in
    let f : RequestMetadata → Bool → Direction → Direction → ControlProfile → Answer =
    λ m d a b g.
    Answer.PlanBegun (record { id = x.id; row = x.row; plan = record { metadata = m; has_data = d; data_direction = a; status_direction = b; profile = g } }) in
    let e1 = metadata_back p.metadata h in
    let e2 = flag_back p.has_data in
    let e3 = direction_back p.data_direction in
    let e4 = direction_back p.status_direction in
    let e5 = profile_back p.profile in
    λ i. f (e1 i) (e2 i) (e3 i) (e4 i) (e5 i)

report_back : (x : RequestReport) → MetadataFits x.metadata → StateFits x.state → read_answer (report_words x) ≡ Answer.Report x
unfolding read_answer report_words ◌if◌else◌
report_back x h k =
    let e1 = metadata_back x.metadata h in
    let e2 = state_back x.state k in
    let e3 = flag_back x.logical_cancel in
    let e4 = flag_back x.timed_out in
    λ i. Answer.Report (record { id = x.id; metadata = e1 i; state = e2 i; logical_cancel = e3 i; timed_out = e4 i })

recovering_back : (x : Recovery) → DeviceFits x.device → read_answer (recovering_words x) ≡ Answer.Recovering x
unfolding read_answer recovering_words ◌if◌else◌
recovering_back x h =
    let e1 = device_back x.device h in
    let e2 = kind_back x.kind in
    λ i. Answer.Recovering (record { target = x.target; device = e1 i; endpoint = x.endpoint; kind = e2 i })

recovered_back : (x : AbortReport) → DeviceFits x.device → OptionErrorFits x.error → read_answer (recovered_words x) ≡ Answer.Recovered x
unfolding read_answer recovered_words ◌if◌else◌
recovered_back x h k =
    let e1 = device_back x.device h in
    let e2 = flag_back x.restart_ready in
    let e3 = option_error_back x.error k in
    λ i. Answer.Recovered (record {
      target = x.target;
      device = e1 i;
      endpoint = x.endpoint;
      completed = x.completed;
      aborted = x.aborted;
      restart_ready = e2 i;
      error = e3 i;
    })

pub answer_back : (a : Answer) → AnswerFits a → read_answer (answer_words a) ≡ a
unfolding read_answer ◌if◌else◌
answer_back (Answer.Refused r) h = refused_back r h
answer_back Answer.Pass h = refl
answer_back (Answer.Begun x) h = begun_back x h
answer_back (Answer.PlanBegun x) h = plan_back x h
answer_back (Answer.Report x) (h, k) = report_back x h k
answer_back Answer.NoReport h = refl
answer_back (Answer.Asked token) h = refl
answer_back (Answer.Number n) h = refl
answer_back (Answer.Bytes p) h = refl
answer_back (Answer.Recovering x) h = recovering_back x h
answer_back (Answer.Recovered x) (h, k) = recovered_back x h k

-- two answers of the same words are the same
pub answer_told : (a b : Answer) → AnswerFits a → AnswerFits b → answer_words a ≡ answer_words b → a ≡ b
answer_told a b h k e = sym (answer_back a h) ∙ ap read_answer e ∙ answer_back b k

-- ---- in `out`
option_error_many : (o : Option OperationError) → length (option_error_words o) ≡ 5
option_error_many None = refl
option_error_many (Some e) = refl

words_few : (a : Answer) → length (answer_words a) ≤ answer_size
unfolding refusal_words begun_words plan_words report_words recovering_words recovered_words setup_bytes
words_few (Answer.Refused r) = omega arith
words_few Answer.Pass = omega arith
words_few (Answer.Begun x) = omega arith
words_few (Answer.PlanBegun x) = omega arith
words_few (Answer.Report x) = omega arith
words_few Answer.NoReport = omega arith
words_few (Answer.Asked token) = omega arith
words_few (Answer.Number n) = omega arith
words_few (Answer.Bytes p) = omega arith
words_few (Answer.Recovering x) = omega arith
words_few (Answer.Recovered x) = omega (arith, option_error_many x.error)

-- word i of the first 32: the answer's, and then zeros
module _ (w out : List ℕ) (few : length w ≤ answer_size) (room : answer_size ≤ length out) (i : ℕ) (below : i < answer_size) where
  abbrev zeroed : List ℕ
  zeroed = splice 0 (replicate answer_size 0) out

  zeroed_at : get_or zeroed i 0 ≡ 0
  unfolding splice
  zeroed_at =
      get_or-append (replicate answer_size 0) (drop answer_size out) 0 i (omega (arith, length-replicate {A = ℕ} answer_size 0))
      ∙ get_or-replicate answer_size i 0 0 below

  put_all : splice 0 w zeroed ≡ written w out
  unfolding written
  put_all = passes (List ℕ) _ _ _ _ (le-ltb _ _ room) (passes (List ℕ) _ _ _ _ (le-ltb _ _ few) refl)

  own_at : i < length w → get_or (splice 0 w zeroed) i 0 ≡ get_or w i 0
  unfolding splice
  own_at h = get_or-append w (drop (0 + length w) zeroed) 0 i h

  zero_at : length w ≤ i → get_or (splice 0 w zeroed) i 0 ≡ get_or w i 0
  unfolding splice
  zero_at h =
      let k = i - length w in
      let e : length w + k ≡ i = omega arith in
      let d : 0 + length w + k ≡ i = omega arith in
      ap (λ (j : ℕ). get_or (w ++ drop (0 + length w) zeroed) j 0) (sym e) ∙ get_or-append-add w (drop (0 + length w) zeroed) k 0
      ∙ get_or-drop (0 + length w) zeroed k 0 ∙ ap (λ (j : ℕ). get_or zeroed j 0) d ∙ zeroed_at ∙ sym (get_or-eq_default w 0 h)

  written_at : get_or (take answer_size (written w out)) i 0 ≡ get_or w i 0
  written_at =
      get_or-take answer_size (written w out) i 0 below ∙ ap (λ (l : List ℕ). get_or l i 0) (sym put_all) ∙ ⊎_elim zero_at own_at (le_or_lt (length w) i)

-- an answer is read from the first 32 words
reads_first : (w : List ℕ) → read_answer w ≡ read_answer (tab (λ (k : ℕ). get_or w k 0) answer_size)
unfolding read_answer
reads_first w = refl

pub out_told : (a : Answer) (out : List ℕ) → AnswerFits a → answer_size ≤ length out → read_answer (take answer_size (written (answer_words a) out)) ≡ a
out_told a out h room =
    let w = answer_words a in
    let l = take answer_size (written w out) in
    reads_first l
    ∙ ap read_answer (tab_same (λ (k : ℕ). get_or w k 0) (λ (k : ℕ). get_or l k 0) answer_size (λ j below. written_at w out (words_few a) room j below))
    ∙ sym (reads_first w) ∙ answer_back a h
