-- One law for each way out of a control plan's submission: its premises are the facts in hand there. Assumes nothing.
use Rattle.std.specs.Prelude.{Result, Ok, Err}
use Prim.Native.Nat.{ℕ}
use mathlib.Core.List.{List}
use mathlib.Core.Path.{◌≡◌, ◌∙◌}
use lib.ListN.{length}
use Rattle.chain.specs.After.{After, after}
use Rattle.models.specs.declared.{ControlPlan.ControlPlan, OperationError.OperationError, Refusal.Refusal, RequestId.RequestId}
use Rattle.checks.specs.declared.{plan.ValidatedControlPlan.ValidatedControlPlan}
use Rattle.session.specs.Lent.{Lent}
use Rattle.session.specs.declared.{Called.Called, Session.Session, sizes.Place.Place}
use Rattle.submissions.specs.Admit.{admit_plan_of}
use Rattle.submissions.specs.Begin.{draft, target_of}
use Rattle.submissions.specs.Plan.{both, plan_started, plan_target, submit_plan_by, submit_plan_of}
use Rattle.submissions.specs.declared.{PlanSubmission.PlanSubmission, admit.AdmittedPlan.AdmittedPlan, begin.Start.Start}
use Rattle.session.specs.Called.{call_refused}

-- what the backend is given
module _ (a : Result Start Refusal) (s : Session) (p : ValidatedControlPlan) where
  pub started_no : (r : Refusal) (x : Called PlanSubmission) → a ≡ Err r → x ≡ call_refused s r → x ≡ plan_started a s p
  unfolding plan_started
  started_no r x e ex = ex ∙ rw e

  pub started_at : (x : Start) → a ≡ Ok x
      → ◌≡◌ {A = (Called PlanSubmission)} (record { answer = Ok (record { id = x.id; row = x.row; plan = p }); session = s }) (plan_started a s p)
  unfolding plan_started
  started_at x e = rw e

-- 26 to 35 and 39
pub plan_target_is : (p : Place) (v : ValidatedControlPlan) (bytes : List ℕ) (first : Result ℕ OperationError) (s : Session) (l : Lent) (y : Called Start) (left : Lent) (z : Called PlanSubmission)
    → after y left ≡ target_of (draft p v.metadata bytes) (both first) s l → z ≡ plan_started y.answer y.session v → after z left ≡ plan_target p v bytes first s l
unfolding plan_target
plan_target_is p v bytes first s l y left z h ez = rw (ez, ← h)

-- the rest
module _ (q : ControlPlan) (bytes : List ℕ) (first : Result ℕ OperationError) (s : Session) (l : Lent) (a : Result AdmittedPlan Refusal) (ea : a ≡ admit_plan_of q (length bytes) s l) where
  pub plan_stop : (r : Refusal) (x : Called PlanSubmission) → a ≡ Err r → x ≡ call_refused s r → after x l ≡ submit_plan_of q bytes first s l
  unfolding submit_plan_of submit_plan_by
  plan_stop r x e ex = rw (ex, ← ea, e)

  pub plan_on : (x : AdmittedPlan) (o : After (Called PlanSubmission) Lent) → a ≡ Ok x
      → o ≡ plan_target x.place x.plan bytes first s l → o ≡ submit_plan_of q bytes first s l
  unfolding submit_plan_of submit_plan_by
  plan_on x o e h = h ∙ rw (← ea, e)
