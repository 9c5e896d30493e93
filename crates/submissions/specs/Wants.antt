-- Which port reading a submission lacks, given those that it has: one is wanted where every check before it passes. Assumes nothing.
use Rattle.std.specs.Prelude.{Option, None, ℕ, List, length, Result, Ok, Err}
use Rattle.models.specs.declared.{ControlPlan.ControlPlan, OperationError.OperationError, Refusal.Refusal, RequestMetadata.RequestMetadata}
use Rattle.bus.specs.Tables.{Bus}
use Rattle.targets.specs.Wants.{wanted_reading}
use Rattle.targets.specs.declared.{Readings.Readings, wants.Wanted.Wanted}
use Rattle.session.specs.Lent.{Lent}
use Rattle.session.specs.Session.{is_initialized}
use Rattle.session.specs.declared.{Session.Session}
use Rattle.submissions.specs.Admit.{admit_of, admit_plan_of}
use Rattle.submissions.specs.Plan.{both}
use Rattle.submissions.specs.Submit.{Request}
use Rattle.submissions.specs.declared.{admit.Admitted.Admitted, admit.AdmittedPlan.AdmittedPlan}

unfoldable pub target_wants : RequestMetadata → Readings → Session → Bus → Option Wanted
target_wants m x s b = wanted_reading (is_initialized s.state) s.ports m x b

unfoldable pub wants_by : Result Admitted Refusal → Readings → Session → Bus → Option Wanted
wants_by (Err r) x s b = None
wants_by (Ok a) x s b = target_wants a.metadata x s b

unfoldable pub submit_wants : List ℕ → Request → Session → Lent → Option Wanted
submit_wants packets q s l = wants_by (admit_of packets q.given q.spec (length q.bytes) s l) q.readings s l.bus

unfoldable pub plan_wants_by : Result AdmittedPlan Refusal → Result ℕ OperationError → Session → Bus → Option Wanted
plan_wants_by (Err r) first s b = None
plan_wants_by (Ok a) first s b = target_wants a.plan.metadata (both first) s b

unfoldable pub plan_wants : ControlPlan → List ℕ → Result ℕ OperationError → Session → Lent → Option Wanted
plan_wants q bytes first s l = plan_wants_by (admit_plan_of q (length bytes) s l) first s l.bus
