-- The submission of a control plan (document 01, "Added by design" and "Request row"). Assumes nothing.
use Rattle.std.specs.Prelude.{ℕ, List, length, Result, Ok, Err}
use Rattle.chain.specs.After.{After, after}
use Rattle.models.specs.declared.{ControlPlan.ControlPlan, OperationError.OperationError, Refusal.Refusal}
use Rattle.checks.specs.declared.{plan.ValidatedControlPlan.ValidatedControlPlan}
use Rattle.targets.specs.declared.{Readings.Readings}
use Rattle.session.specs.Lent.{Lent}
use Rattle.session.specs.declared.{Called.Called, Session.Session, sizes.Place.Place}
use Rattle.submissions.specs.Admit.{admit_plan_of}
use Rattle.submissions.specs.Begin.{draft, target_of}
use Rattle.submissions.specs.declared.{PlanSubmission.PlanSubmission, admit.AdmittedPlan.AdmittedPlan, begin.Start.Start}
use Rattle.session.specs.Called.{call_refused}

-- a plan is control, so its one reading serves for both
abbrev pub both : Result ℕ OperationError → Readings
both r = record { first = r; second = r }

-- what the backend is given: id, row, the whole plan
unfoldable pub plan_started : Result Start Refusal → Session → ValidatedControlPlan → Called PlanSubmission
plan_started (Err r) s p = call_refused s r
plan_started (Ok x) s p = record { answer = Ok (record { id = x.id; row = x.row; plan = p }); session = s }

abbrev pub planned_to : After (Called Start) Lent → ValidatedControlPlan → After (Called PlanSubmission) Lent
planned_to o v = after (plan_started o.result.answer o.result.session v) o.lent

-- 26 to 35 and 39
unfoldable pub plan_target : Place → ValidatedControlPlan → List ℕ → Result ℕ OperationError → Session → Lent → After (Called PlanSubmission) Lent
plan_target p v bytes first s l = planned_to (target_of (draft p v.metadata bytes) (both first) s l) v

unfoldable pub submit_plan_by : Result AdmittedPlan Refusal → List ℕ → Result ℕ OperationError → Session → Lent → After (Called PlanSubmission) Lent
submit_plan_by (Err r) bytes first s l = after (call_refused s r) l
submit_plan_by (Ok a) bytes first s l = plan_target a.place a.plan bytes first s l

-- 1, 3, 5, 18 to 25 with 6 and 7; then 26 to 39
unfoldable pub submit_plan_of : ControlPlan → List ℕ → Result ℕ OperationError → Session → Lent → After (Called PlanSubmission) Lent
submit_plan_of q bytes first s l = submit_plan_by (admit_plan_of q (length bytes) s l) bytes first s l
