-- One law for each way out of the search for a reading that a submission lacks: its premises are the facts in hand there. Assumes nothing.
use Rattle.std.specs.Prelude.{Option, None, Result, Ok, Err}
use Prim.Native.Nat.{ℕ}
use mathlib.Core.Bool.{Bool}
use mathlib.Core.List.{List}
use mathlib.Core.Path.{◌≡◌, ◌∙◌}
use lib.ListN.{length}
use Rattle.models.specs.declared.{ControlPlan.ControlPlan, OperationError.OperationError, Refusal.Refusal, RequestMetadata.RequestMetadata}
use Rattle.bus.specs.Tables.{Bus}
use Rattle.targets.specs.Wants.{wanted_reading}
use Rattle.targets.specs.declared.{Readings.Readings, wants.Wanted.Wanted}
use Rattle.session.specs.Lent.{Lent}
use Rattle.session.specs.Session.{is_initialized}
use Rattle.session.specs.declared.{Session.Session}
use Rattle.submissions.specs.Admit.{admit_of, admit_plan_of}
use Rattle.submissions.specs.Plan.{both}
use Rattle.submissions.specs.Submit.{Request}
use Rattle.submissions.specs.Wants.{target_wants, wants_by, submit_wants, plan_wants_by, plan_wants}
use Rattle.submissions.specs.declared.{admit.Admitted.Admitted, admit.AdmittedPlan.AdmittedPlan}

pub target_on : (m : RequestMetadata) (x : Readings) (s : Session) (b : Bus) (t : Bool) (w : Option Wanted) → t ≡ is_initialized s.state
    → w ≡ wanted_reading t s.ports m x b → w ≡ target_wants m x s b
unfolding target_wants
target_on m x s b t w e ew = ew ∙ rw e

module _ (packets : List ℕ) (q : Request) (s : Session) (l : Lent) (a : Result Admitted Refusal) (ea : a ≡ admit_of packets q.given q.spec (length q.bytes) s l) where
  pub submit_none : (r : Refusal) → a ≡ Err r → None ≡ submit_wants packets q s l
  unfolding submit_wants wants_by
  submit_none r e = rw (← ea, e)

  pub submit_wants_lem : (x : Admitted) (w : Option Wanted) → a ≡ Ok x → w ≡ target_wants x.metadata q.readings s l.bus → w ≡ submit_wants packets q s l
  unfolding submit_wants wants_by
  submit_wants_lem x w e ew = ew ∙ rw (← ea, e)

module _ (q : ControlPlan) (bytes : List ℕ) (first : Result ℕ OperationError) (s : Session) (l : Lent) (a : Result AdmittedPlan Refusal) (ea : a ≡ admit_plan_of q (length bytes) s l) where
  pub plan_none : (r : Refusal) → a ≡ Err r → None ≡ plan_wants q bytes first s l
  unfolding plan_wants plan_wants_by
  plan_none r e = rw (← ea, e)

  pub plan_wants_lem : (x : AdmittedPlan) (w : Option Wanted) → a ≡ Ok x → w ≡ target_wants x.plan.metadata (both first) s l.bus
      → w ≡ plan_wants q bytes first s l
  unfolding plan_wants plan_wants_by
  plan_wants_lem x w e ew = ew ∙ rw (← ea, e)
