-- A call is what its words say: the laws of the parts, then of each call. Assumes nothing.
use Rattle.std.specs.Prelude.{Option, Some, None, Result, Ok, Err}
use Prim.Native.Nat.{ℕ, ◌+◌, ◌*◌, ◌/◌, ◌%◌, ◌^◌}
use mathlib.Core.Path.{◌≡◌, refl, sym, ap, ◌∙◌}
use mathlib.Core.List.{List, ◌∷◌, ◌++◌, append_assoc}
use native.Mathlib.Omega.{arith}
use lib.ListN.{length, get_or, take, drop}
use lib.Seq.{drop-drop, take_at, drop_at}
use Rattle.chain.specs.Chain.{◌if◌else◌}
use Rattle.words.specs.Records.{tab, part}
use Rattle.words.specs.Words.{flag_word, read_option_u64, option_u64_words}
use Rattle.words.proofs.Options.{low, flag_back}
use Rattle.models.specs.Values.{option_error_words}
use Rattle.models.specs.declared.{DataStage.DataStage, Direction.Direction, OperationError.OperationError, RequestId.RequestId}
use Rattle.models.proofs.Enums.{transfer_back, direction_back, profile_back, device_state_back}
use Rattle.scope.specs.Returned.{completion_words}
use Rattle.session.specs.declared.{RecoveryKind.RecoveryKind}
use Rattle.calls.specs.Calls.{Call, Open, Placing, Place, Device, Port, Endpoints, Reconcile, Moving, Move, Acquire, Initialize, Close, Beginning, Begin, Submit, SubmitPlan, Poll, Recover, Replying, Reply, ToSubmit, ToPoll, ToRecovery, Changing, Change, Cancel, Timeout, Reclaim, Withdraw, Reading, Read, Status, Reports, CountReports, CompletedBytes, HeldCount, HeldBytes}
use Rattle.calls.proofs.Fits.{u32_back, error_back, option_error_back, setup_back}
use Rattle.call_words.specs.Parts.{read_reading, reading_words, read_stage, stage_words, read_status, status_word}
use Rattle.call_words.specs.Arguments.{read_opening, read_snapshot, read_port_row, read_acquire_reply, read_spec, read_readings, read_plan, read_submit_reply, read_poll_reply, read_option_id, read_recovery_reply, read_completed, read_completions, read_aborted}
use Rattle.call_words.specs.Decode.{read_placing, read_moving, read_submission, read_replying, read_changing, read_reporting, read_recovering, read_call}
use Rattle.call_words.specs.Encode.{recovery_reply_words, call_words, call_bytes}
use Rattle.call_words.specs.Fits.{U8Fits, ReadingFits, ReplyFits, PlacingFits, MovingFits, BeginningFits, ReplyingFits, CallFits}
use Rattle.recovery.specs.declared.{BackendAbort.BackendAbort}

-- ---- parts; a `..-shape` says how many words there are
number_back : (o : Option ℕ) → read_option_u64 (option_u64_words o).present (option_u64_words o).value ≡ o
number_back None = refl
number_back (Some v) = refl

port_count_back : (o : Option ℕ) → U8Fits o → read_option_u64 (option_u64_words o).present ((option_u64_words o).value % 2 ^ 8) ≡ o
port_count_back None h = refl
port_count_back (Some n) h = rw (low 8 h)

reading_back : (r : Result ℕ OperationError) → ReadingFits r → read_reading (reading_words r) 0 ≡ r
reading_back (Ok v) h = rw (low 32 h)
reading_back (Err e) h = ap Err (error_back e h)

reading_shape : (r : Result ℕ OperationError) → reading_words r ≡ tab (λ (k : ℕ). get_or (reading_words r) k 0) 6
reading_shape (Ok v) = refl
reading_shape (Err e) = refl

status_back : (x : Option Direction) → read_status (status_word x) ≡ x
status_back None = refl
status_back (Some Direction.In) = refl
status_back (Some Direction.Out) = refl

stage_back : (o : Option DataStage) → read_stage (stage_words o) 0 ≡ o
stage_back None = refl
stage_back (Some x) = rw (direction_back x.direction)

stage_shape : (o : Option DataStage) → stage_words o ≡ tab (λ (k : ℕ). get_or (stage_words o) k 0) 3
stage_shape None = refl
stage_shape (Some x) = refl

option_error_shape : (o : Option OperationError) → option_error_words o ≡ tab (λ (k : ℕ). get_or (option_error_words o) k 0) 5
option_error_shape None = refl
option_error_shape (Some e) = refl

recovery_back : (r : Result BackendAbort OperationError) → ReplyFits r → read_recovery_reply (24 ∷ recovery_reply_words r) ≡ r
unfolding read_recovery_reply
recovery_back (Ok x) h = rw (flag_back x.restart_ready, option_error_back x.error h)
recovery_back (Err e) h = ap Err (error_back e h)

recovery_shape : (r : Result BackendAbort OperationError) → recovery_reply_words r ≡ tab (λ (k : ℕ). get_or (recovery_reply_words r) k 0) 7
recovery_shape (Ok x) = ap (λ (l : List ℕ). 0 ∷ flag_word x.restart_ready ∷ l) (option_error_shape x.error)
recovery_shape (Err e) = refl

-- the lists of a recovery's reply
module _ (w a b c : List ℕ) (d : drop 10 w ≡ (a ++ b) ++ c) (m : ℕ) (em : m * completion_words ≡ length b) where
  tail_is : drop (10 + length a) w ≡ b ++ c
  tail_is = sym (drop-drop (length a) 10 w) ∙ ap (λ (l : List ℕ). drop (length a) l) (d ∙ append_assoc a b c) ∙ drop_at a (b ++ c) (length a) refl

  completed_is : part 10 (length a) w ≡ a
  unfolding part
  completed_is = ap (λ (l : List ℕ). take (length a) l) (d ∙ append_assoc a b c) ∙ take_at a (b ++ c) (length a) refl

  completions_are : part (10 + length a) (m * completion_words) w ≡ b
  unfolding part
  completions_are = rw tail_is (take_at b c (m * completion_words) (sym em))

  aborted_is : drop (10 + length a + m * completion_words) w ≡ c
  aborted_is = sym (drop-drop (m * completion_words) (10 + length a) w) ∙ rw tail_is (drop_at b c (m * completion_words) (sym em))

-- ---- calls
abbrev Back : Call → Type 0
Back c = read_call (call_words c) (call_bytes c) ≡ c

place_back : (p : Placing) → PlacingFits p → Back (Place p)
unfolding read_call read_placing read_snapshot read_port_row call_words ◌if◌else◌
place_back (Device x) (d, p) = rw (low 8 d, low 8 p, device_state_back x.state)
place_back (Port n r) (h, k) = rw (low 8 h, u32_back r.reading k)
place_back (Endpoints slot list) h = rw (low 8 h)
place_back (Reconcile slot mark) h = rw (low 8 h, flag_back mark)

move_back : (m : Moving) → MovingFits m → Back (Move m)
unfolding read_call read_moving read_acquire_reply call_words ◌if◌else◌
move_back (Acquire (Ok tt)) h = refl
move_back (Acquire (Err f)) h = rw (error_back f.error h, flag_back f.retained)
move_back (Initialize e) h = rw (option_error_back e h)
move_back (Close fresh e) h = rw (number_back fresh, option_error_back e h)

begin_back : (b : Beginning) → BeginningFits b → Back (Begin b)
unfolding read_call read_submission read_replying read_recovering read_spec read_readings read_plan call_words ◌if◌else◌
begin_back (Submit packets q) (s, f, g) =
    let x = q.spec in
    let a = q.readings.first in
    let b = q.readings.second in
    rw (reading_shape a, reading_shape b)
    (rw (
      low 8 s.0,
      low 8 s.1,
      transfer_back x.transfer_type,
      direction_back x.direction,
      setup_back x.setup s.2,
      reading_back a f,
      reading_back b g,
      flag_back q.given,
    ))
begin_back (SubmitPlan q) (p, f) =
    let x = q.plan in
    let u = p.1 in
    rw (stage_shape x.data_stage)
    (rw (
      low 8 p.0,
      profile_back x.profile,
      low 8 u.0,
      low 8 u.1,
      low 16 u.2,
      low 16 u.3,
      low 16 u.4,
      stage_back x.data_stage,
      status_back x.status_direction,
      reading_back q.reading f,
    ))
begin_back (Poll id) h = refl
begin_back (Recover id RecoveryKind.Abort) h = refl
begin_back (Recover id (RecoveryKind.Reset preserve)) h = rw (flag_back preserve)

reply_back : (r : Replying) → ReplyingFits r → Back (Reply r)
unfolding read_call read_replying read_recovering read_submit_reply read_poll_reply read_recovery_reply read_completed read_completions read_aborted call_words ◌if◌else◌
reply_back (ToSubmit (Ok x)) h = refl
reply_back (ToSubmit (Err e)) h = rw (error_back e h)
reply_back (ToPoll (Ok None) bytes) h = refl
reply_back (ToPoll (Err e) bytes) h = rw (error_back e h)
reply_back (ToPoll (Ok (Some x)) bytes) (h, k) =
    rw (option_error_shape x.error)
    (rw (
      number_back x.actual_length,
      u32_back x.completion_code k,
      flag_back x.has_data,
      option_error_back x.error h,
      flag_back x.quiescent,
    ))
reply_back (ToRecovery r l) (h, whole) =
    let a = l.tokens in
    let b = l.completions in
    let c = l.aborted in
    let m = length b / completion_words in
    let em : m * completion_words ≡ length b = omega arith in
    let w : List ℕ = 24 ∷ tab (λ (k : ℕ). get_or (recovery_reply_words r) k 0) 7 ++ length a ∷ m ∷ a ++ b ++ c in
    rw (recovery_shape r)
    (rw (completed_is w a b c refl m em, completions_are w a b c refl m em, aborted_is w a b c refl m em)
    (ap (λ (x : Result BackendAbort OperationError). Reply (ToRecovery x l)) (recovery_back r h)))

change_back : (id : RequestId) (c : Changing) → Back (Change id c)
unfolding read_call read_changing call_words ◌if◌else◌
change_back id Cancel = refl
change_back id Timeout = refl
change_back id Reclaim = refl
change_back id Withdraw = refl

read_back : (r : Reading) → Back (Read r)
unfolding read_call read_reporting read_option_id call_words ◌if◌else◌
read_back (Status id) = refl
read_back (Reports None) = refl
read_back (Reports (Some id)) = refl
read_back CountReports = refl
read_back (CompletedBytes id) = refl
read_back HeldCount = refl
read_back HeldBytes = refl

pub words_call : (c : Call) → CallFits c → read_call (call_words c) (call_bytes c) ≡ c
unfolding read_call read_placing read_opening call_words ◌if◌else◌
words_call (Open o) h = rw (number_back o.recovery_revision, port_count_back o.port_count h)
words_call (Place p) h = place_back p h
words_call (Move m) h = move_back m h
words_call (Begin b) h = begin_back b h
words_call (Reply r) h = reply_back r h
words_call (Change id c) h = change_back id c
words_call (Read r) h = read_back r
