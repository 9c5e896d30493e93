-- What the operator of the grabber relies on (document 02, M-120): a cancel and its withdrawal, in either order, leave all as it was. Assumes nothing.
use Rattle.std.specs.Prelude.{Bool, true, false, ◌≡◌}
use Rattle.models.specs.declared.{RequestId.RequestId, RequestReport.RequestReport}
use Rattle.models.specs.declared.RequestState.TheVariants.{Pending}
use Rattle.session.specs.Session.{is_busy}
use Rattle.calls.specs.Calls.{Changing, Cancel, Withdraw, Change, Read, Status}
use Rattle.calls.specs.Step.{World, step_of, next}
use Rattle.calls.specs.declared.{Answer.Answer}

-- nothing is in flight, and the id's report says Pending, with that cancel flag
pub record Shows (w : World) (id : RequestId) (cancel : Bool) : Type 0 where
  pub idle : is_busy w.session.in_flight ≡ false
  pub report : RequestReport
  pub shown : (step_of (Read (Status id)) w).result.answer ≡ Answer.Report report
  pub late : Bool
  pub state : report.state ≡ Pending cancel late

-- after c the change d answers the report that there was before, and session, bus, store (rows and words) and area are what they were
abbrev pub TakesBack : World → RequestId → Changing → Changing → Type 0
TakesBack w id c d = step_of (Change id d) (next (step_of (Change id c) w)) ≡ step_of (Read (Status id)) w

pub record Withdraws (w : World) : Type 0 where
  pub cancelled : (id : RequestId) → Shows w id false → TakesBack w id Cancel Withdraw
  pub withdrawn : (id : RequestId) → Shows w id true → TakesBack w id Withdraw Cancel
