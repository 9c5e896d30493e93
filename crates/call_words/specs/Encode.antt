-- The words of a call. Assumes nothing.
use Rattle.std.specs.Prelude.{ℕ, ◌/◌, List, [], ◌∷◌, ◌++◌, length, Option, Some, None, Result, Ok, Err, ⊤}
use Rattle.words.specs.Words.{flag_word, option_u32_word}
use Rattle.models.specs.Codes.{transfer_word, direction_word, profile_word}
use Rattle.models.specs.Values.{error_words, option_error_words, request_id_words, device_id_words, snapshot_words}
use Rattle.models.specs.declared.{BackendCompletion.BackendCompletion, ControlPlan.ControlPlan, OperationError.OperationError, RequestId.RequestId, RequestSpec.RequestSpec}
use Rattle.session.specs.declared.{RecoveryKind.RecoveryKind, lifecycle.AcquireFailure.AcquireFailure, lifecycle.Opening.Opening}
use Rattle.scope.specs.Returned.{completion_words}
use Rattle.calls.specs.Calls.{Call, Open, Placing, Place, Device, Port, Endpoints, Reconcile, Moving, Move, Acquire, Initialize, Close, Beginning, Begin, Submit, SubmitPlan, Poll, Recover, Replying, Reply, ToSubmit, ToPoll, ToRecovery, Changing, Change, Cancel, Timeout, Reclaim, Withdraw, Reading, Read, Status, Reports, CountReports, CompletedBytes, HeldCount, HeldBytes}
use Rattle.call_words.specs.Parts.{zeros, option_number_words, packet_words, option_setup_words, reading_words, backend_completion_words, stage_words, status_word}
use Rattle.recovery.specs.declared.{BackendAbort.BackendAbort}

-- ---- the arguments of several words

abbrev pub opening_words : Opening → List ℕ
opening_words o =
    o.session ∷ o.first_sequence ∷ option_number_words o.recovery_revision
    ++ option_number_words o.port_count ++ o.size.row_count ∷ o.size.row_bytes ∷ []

abbrev pub acquire_words : Result ⊤ AcquireFailure → List ℕ
acquire_words (Ok tt) = zeros 6
acquire_words (Err f) = 1 ∷ flag_word f.retained ∷ error_words f.error

abbrev pub spec_words : RequestSpec → List ℕ
spec_words q =
    device_id_words q.device ++ q.endpoint ∷ transfer_word q.transfer_type ∷ direction_word q.direction ∷ q.length ∷ option_setup_words q.setup

abbrev pub control_plan_words : ControlPlan → List ℕ
control_plan_words p =
    device_id_words p.device ++ profile_word p.profile ∷ packet_words p.setup
    ++ stage_words p.data_stage ++ status_word p.status_direction ∷ []

abbrev pub submit_reply_words : Result ℕ OperationError → List ℕ
submit_reply_words (Ok t) = 0 ∷ t ∷ zeros 4
submit_reply_words (Err e) = 1 ∷ 0 ∷ error_words e

abbrev pub poll_reply_words : Result (Option BackendCompletion) OperationError → List ℕ
poll_reply_words (Ok None) = 0 ∷ zeros 10
poll_reply_words (Err e) = 1 ∷ 0 ∷ error_words e ++ zeros 5
poll_reply_words (Ok (Some x)) = 2 ∷ backend_completion_words x

abbrev pub option_id_words : Option RequestId → List ℕ
option_id_words None = zeros 4
option_id_words (Some id) = 1 ∷ request_id_words id

abbrev pub recovery_reply_words : Result BackendAbort OperationError → List ℕ
recovery_reply_words (Ok x) = 0 ∷ flag_word x.restart_ready ∷ option_error_words x.error
recovery_reply_words (Err e) = 1 ∷ 0 ∷ 0 ∷ error_words e

-- ---- by group

abbrev pub placing_words : Placing → List ℕ
placing_words (Device d) = 1 ∷ snapshot_words d
placing_words (Port n r) = 2 ∷ n ∷ r.generation ∷ option_u32_word r.reading ∷ []
placing_words (Endpoints slot list) = 3 ∷ slot ∷ list
placing_words (Reconcile slot mark) = 4 ∷ slot ∷ flag_word mark ∷ []

abbrev pub moving_words : Moving → List ℕ
moving_words (Acquire r) = 5 ∷ acquire_words r
moving_words (Initialize e) = 6 ∷ option_error_words e
moving_words (Close fresh e) = 7 ∷ option_number_words fresh ++ option_error_words e

abbrev pub beginning_words : Beginning → List ℕ
beginning_words (Submit packets q) =
    8 ∷ spec_words q.spec ++ reading_words q.readings.first ++ reading_words q.readings.second ++ flag_word q.given ∷ packets
beginning_words (SubmitPlan q) = 9 ∷ control_plan_words q.plan ++ reading_words q.reading
beginning_words (Poll id) = 11 ∷ request_id_words id
beginning_words (Recover id RecoveryKind.Abort) = 22 ∷ request_id_words id
beginning_words (Recover id (RecoveryKind.Reset preserve)) = 23 ∷ request_id_words id ++ flag_word preserve ∷ []

abbrev pub replying_words : Replying → List ℕ
replying_words (ToSubmit r) = 10 ∷ submit_reply_words r
replying_words (ToPoll r bytes) = 12 ∷ poll_reply_words r
replying_words (ToRecovery r l) =
    24 ∷ recovery_reply_words r ++ length l.tokens ∷ length l.completions / completion_words ∷ l.tokens ++ l.completions ++ l.aborted

abbrev pub changing_number : Changing → ℕ
changing_number Cancel = 13
changing_number Timeout = 14
changing_number Reclaim = 15
changing_number Withdraw = 29

abbrev pub reading_call_words : Reading → List ℕ
reading_call_words (Status id) = 16 ∷ request_id_words id
reading_call_words (Reports after) = 17 ∷ option_id_words after
reading_call_words CountReports = 18 ∷ []
reading_call_words (CompletedBytes id) = 19 ∷ request_id_words id
reading_call_words HeldCount = 20 ∷ []
reading_call_words HeldBytes = 21 ∷ []

unfoldable pub call_words : Call → List ℕ
call_words (Open o) = 0 ∷ opening_words o
call_words (Place p) = placing_words p
call_words (Move m) = moving_words m
call_words (Begin b) = beginning_words b
call_words (Reply r) = replying_words r
call_words (Change id c) = changing_number c ∷ request_id_words id
call_words (Read r) = reading_call_words r

-- ---- the bytes lent beside the words

abbrev pub beginning_bytes : Beginning → List ℕ
beginning_bytes (Submit packets q) = q.bytes
beginning_bytes (SubmitPlan q) = q.bytes
beginning_bytes (Poll id) = []
beginning_bytes (Recover id k) = []

abbrev pub replying_bytes : Replying → List ℕ
replying_bytes (ToSubmit r) = []
replying_bytes (ToPoll r bytes) = bytes
replying_bytes (ToRecovery r l) = l.bytes

abbrev pub call_bytes : Call → List ℕ
call_bytes (Open o) = []
call_bytes (Place p) = []
call_bytes (Move m) = []
call_bytes (Begin b) = beginning_bytes b
call_bytes (Reply r) = replying_bytes r
call_bytes (Change id c) = []
call_bytes (Read r) = []
