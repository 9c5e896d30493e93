-- The rules of one row (document 01, "State row" and "Request row"; the Rust's `RequestLedger`). Assumes nothing.
use Rattle.std.specs.Prelude.{ℕ, ◌+◌, ◌-◌, ◌^◌, Bool, true, false, not, eqb, Option, Result, Ok, Err}
use Rattle.chain.specs.Chain.{◌if◌else◌}
use Rattle.models.specs.Refusals.{refusal_of}
use Rattle.models.specs.Requests.{device_may_access}
use Rattle.models.specs.declared.{OperationError.OperationError, Refusal.Refusal, RequestId.RequestId, RequestMetadata.RequestMetadata, RequestState.RequestState}
use Rattle.models.specs.declared.RequestState.TheVariants.{Pending, Completed, Failed, Aborted}
use Rattle.rows.specs.InPlace.{cancel_in, late_in, cancelled, timed_out, completed_row}
use Rattle.rows.specs.Table.{empty_row}
pub use Rattle.rows.specs.Table.{report_of, with_token, with_state, flagged}
use Rattle.rows.specs.declared.{Row.Row}
use Rattle.rules.specs.declared.{Change.Change, Step.Step}

-- the row of a submission, without a token yet
unfoldable pub pending_row : RequestId → RequestMetadata → Row
pending_row id m = record { used = true; id = id; metadata = m; token = 0; logical_cancel = false; timed_out = false; state = Pending false false }

-- 39: the greatest sequence number is never given
unfoldable pub spend_sequence : ℕ → Result ℕ Refusal
spend_sequence next = Err (refusal_of 39) if eqb next (2 ^ 64 - 1) else Ok (next + 1)

-- a refusal, a step to a row that is reported as it then is, and one to a free row with the request reported as it was
abbrev pub refused_by : ℕ → Result Step Refusal
refused_by n = Err (refusal_of n)

unfoldable pub moved : Row → Result Step Refusal
moved r = Ok (record { row = r; report = (report_of r) })

unfoldable pub freed : Row → Result Step Refusal
freed r = Ok (record { row = empty_row; report = (report_of r) })

-- the backend took the submission
unfoldable pub accepted : Row → ℕ → Result Step Refusal
accepted r token = moved (with_token r token)

-- 41: not Pending; else the step
unfoldable pub while_pending : RequestState → Result Step Refusal → Result Step Refusal
while_pending (Pending cancel late) step = step
while_pending (Completed actual code cancel) step = refused_by 41
while_pending (Failed error code quiescent) step = refused_by 41
while_pending Aborted step = refused_by 41

unfoldable pub logical_cancel : Row → Result Step Refusal
logical_cancel r = while_pending r.state (moved (cancelled r))

-- document 02, M-120. 41; 59: the state has no cancel. Both copies of the flag are cleared, those of the timeout stay
unfoldable pub cancel_withdrawn : Row → Result Step Refusal
cancel_withdrawn r =
    while_pending r.state
    (refused_by 59 if not (cancel_in r.state) else
    moved (flagged r false (late_in r.state) false r.timed_out))

unfoldable pub time_out : Row → Result Step Refusal
time_out r = while_pending r.state (moved (timed_out r))

unfoldable pub completed : Row → ℕ → ℕ → Result Step Refusal
completed r actual code = while_pending r.state (moved (completed_row r actual code))

unfoldable pub failed : Row → OperationError → Option ℕ → Bool → Result Step Refusal
failed r error code quiescent = while_pending r.state (moved (with_state r (Failed error code quiescent)))

-- 43: not held
unfoldable pub abort_confirmed : Row → Result Step Refusal
abort_confirmed r = refused_by 43 if not (device_may_access r.state) else moved (with_state r Aborted)

-- 42: still held
unfoldable pub reclaimed : Row → Result Step Refusal
reclaimed r = refused_by 42 if device_may_access r.state else freed r

unfoldable pub change_row : Row → Change → Result Step Refusal
change_row r (Change.Accept token) = accepted r token
change_row r Change.Discard = freed r
change_row r Change.LogicalCancel = logical_cancel r
change_row r Change.Timeout = time_out r
change_row r (Change.Complete actual code) = completed r actual code
change_row r (Change.Fail error code quiescent) = failed r error code quiescent
change_row r Change.ConfirmAbort = abort_confirmed r
change_row r Change.Reclaim = reclaimed r
change_row r Change.WithdrawCancel = cancel_withdrawn r
