use Rattle.std.proofs.Common.{rules}
use Rattle.checks.specs.Completion.{test_completion, test_length}
use Rattle.checks.proofs.Said.{test_said_lem}
use Rattle.checks.proofs.completion.test_completion.Goals as goal

pub returns-in_err-actual-clause-step : goal.returns-in_err-actual-clause-step
unfolding test_completion test_length
returns-in_err-actual-clause-step c = search rules

pub returns-in_err-actual-clause-table : goal.returns-in_err-actual-clause-table
returns-in_err-actual-clause-table c = (test_said_lem _ _ _ _ (returns-in_err-actual-clause-step c)).1

pub returns-clause-step : goal.returns-clause-step
unfolding test_completion test_length
returns-clause-step c = search rules

pub returns-clause-table : goal.returns-clause-table
returns-clause-table c = (test_said_lem _ _ _ _ (returns-clause-step c)).1
