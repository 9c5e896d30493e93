-- The calls of the library, each with its arguments, the backend's reply and the lent bytes. Assumes nothing.
use Rattle.std.specs.Prelude.{ℕ, Bool, List, Option, Result, ⊤}
use Rattle.models.specs.declared.{BackendCompletion.BackendCompletion, ControlPlan.ControlPlan, DeviceSnapshot.DeviceSnapshot, OperationError.OperationError, RequestId.RequestId}
use Rattle.bus.specs.declared.{PortRow.PortRow}
use Rattle.session.specs.declared.{RecoveryKind.RecoveryKind, lifecycle.AcquireFailure.AcquireFailure, lifecycle.Opening.Opening}
use Rattle.submissions.specs.Submit.{Request}
use Rattle.recovery.specs.RecoveryReply.{ReplyLists}
use Rattle.recovery.specs.declared.{BackendAbort.BackendAbort}
use Rattle.polls.specs.declared.{PollAnswer.PollAnswer}

-- document 01's placing calls
pub data Placing : Type 0 where
  Device : DeviceSnapshot → Placing
  Port : ℕ → PortRow → Placing
  Endpoints : ℕ → List ℕ → Placing
  Reconcile : ℕ → Bool → Placing

-- what moves the controller's state
pub data Moving : Type 0 where
  Acquire : Result ⊤ AcquireFailure → Moving
  Initialize : Option OperationError → Moving
  Close : Option ℕ → Option OperationError → Moving

-- the submission of a control plan
pub record PlanRequest : Type 0 where
  pub plan : ControlPlan
  pub bytes : List ℕ
  pub reading : Result ℕ OperationError

abbrev pub plan_request : ControlPlan → List ℕ → Result ℕ OperationError → PlanRequest
plan_request q bytes x = record { plan = q; bytes = bytes; reading = x }

-- what asks the backend, and waits for its reply
pub data Beginning : Type 0 where
  -- packets, and the request
  Submit : List ℕ → Request → Beginning
  SubmitPlan : PlanRequest → Beginning
  Poll : RequestId → Beginning
  Recover : RequestId → RecoveryKind → Beginning

-- the backend's reply
pub data Replying : Type 0 where
  ToSubmit : Result ℕ OperationError → Replying
  ToPoll : Result (Option BackendCompletion) OperationError → List ℕ → Replying
  ToRecovery : Result BackendAbort OperationError → ReplyLists → Replying

-- a change of one request
pub data Changing : Type 0 where
  Cancel : Changing
  Timeout : Changing
  Reclaim : Changing
  Withdraw : Changing

-- read-only calls
pub data Reading : Type 0 where
  Status : RequestId → Reading
  Reports : Option RequestId → Reading
  CountReports : Reading
  CompletedBytes : RequestId → Reading
  HeldCount : Reading
  HeldBytes : Reading

pub data Call : Type 0 where
  Open : Opening → Call
  Place : Placing → Call
  Move : Moving → Call
  Begin : Beginning → Call
  Reply : Replying → Call
  Change : RequestId → Changing → Call
  Read : Reading → Call
