use Rattle.std.proofs.Common.{rules}
use Rattle.checks.specs.Prepare.{prepared, prepared_if}
use Rattle.checks.proofs.Said.{prepared_said_lem}
use Rattle.checks.proofs.prepare.prepare.Goals as goal

pub returns-in_err-check_spec-clause-step : goal.returns-in_err-check_spec-clause-step
unfolding prepared prepared_if
returns-in_err-check_spec-clause-step c = search rules

pub returns-in_err-check_spec-clause-table : goal.returns-in_err-check_spec-clause-table
returns-in_err-check_spec-clause-table c = (prepared_said_lem _ _ _ _ (returns-in_err-check_spec-clause-step c)).1

pub returns-clause-step : goal.returns-clause-step
unfolding prepared prepared_if
returns-clause-step c = search rules

pub returns-clause-table : goal.returns-clause-table
returns-clause-table c = (prepared_said_lem _ _ _ _ (returns-clause-step c)).1
