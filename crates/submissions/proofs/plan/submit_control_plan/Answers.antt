use Rattle.submissions.proofs.Admission.{plan_placed}
use Rattle.submissions.proofs.Said.{submit_plan_said}
use Rattle.submissions.proofs.plan.Laws.{plan_stop, plan_on}
use Rattle.submissions.proofs.plan.submit_control_plan.Goals as goal

pub plan_target-requires : goal.plan_target-requires
plan_target-requires c = search (plan_placed, c.admit_plan-admitted.ensures, c.in-Ok.is)

pub returns-in-Err-clause-step : goal.returns-in-Err-clause-step
returns-in-Err-clause-step c = search plan_stop

pub returns-in-Err-clause-table : goal.returns-in-Err-clause-table
returns-in-Err-clause-table c = (submit_plan_said _ _ _ _ _ _ _ (returns-in-Err-clause-step c)).1

pub returns-in-Ok-clause-step : goal.returns-in-Ok-clause-step
returns-in-Ok-clause-step c = search plan_on

pub returns-in-Ok-clause-table : goal.returns-in-Ok-clause-table
returns-in-Ok-clause-table c = (submit_plan_said _ _ _ _ _ _ _ (returns-in-Ok-clause-step c)).1
