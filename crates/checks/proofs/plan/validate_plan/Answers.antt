use Rattle.std.proofs.Common.{rules}
use Rattle.checks.specs.Plan.{planned, planned_if}
use Rattle.checks.proofs.Said.{planned_said_lem}
use Rattle.checks.proofs.plan.validate_plan.Goals as goal

pub returns-in_err-check_plan-clause-step : goal.returns-in_err-check_plan-clause-step
unfolding planned planned_if
returns-in_err-check_plan-clause-step c = search rules

pub returns-in_err-check_plan-clause-table : goal.returns-in_err-check_plan-clause-table
returns-in_err-check_plan-clause-table c = (planned_said_lem _ _ _ _ (returns-in_err-check_plan-clause-step c)).1

pub returns-clause-step : goal.returns-clause-step
unfolding planned planned_if
returns-clause-step c = search rules

pub returns-clause-table : goal.returns-clause-table
returns-clause-table c = (planned_said_lem _ _ _ _ (returns-clause-step c)).1
