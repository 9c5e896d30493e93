use Rattle.rules.specs.Rules.{change_row}
use Rattle.rules.proofs.Said.{change_said}
use borrow.Author.Rules.{rules}
use Rattle.rules.proofs.change_row.Goals as goal

pub returns-in-Accept-clause-step : goal.returns-in-Accept-clause-step
unfolding change_row
returns-in-Accept-clause-step c = rw c.in-Accept.is (search rules)

pub returns-in-Accept-clause-table : goal.returns-in-Accept-clause-table
returns-in-Accept-clause-table c = (change_said c.args.row c.args.change _ (returns-in-Accept-clause-step c)).1

pub returns-in-Discard-clause-step : goal.returns-in-Discard-clause-step
unfolding change_row
returns-in-Discard-clause-step c = rw c.in-Discard.is (search rules)

pub returns-in-Discard-clause-table : goal.returns-in-Discard-clause-table
returns-in-Discard-clause-table c = (change_said c.args.row c.args.change _ (returns-in-Discard-clause-step c)).1

pub returns-in-LogicalCancel-clause-step : goal.returns-in-LogicalCancel-clause-step
unfolding change_row
returns-in-LogicalCancel-clause-step c = rw c.in-LogicalCancel.is (search rules)

pub returns-in-LogicalCancel-clause-table : goal.returns-in-LogicalCancel-clause-table
returns-in-LogicalCancel-clause-table c = (change_said c.args.row c.args.change _ (returns-in-LogicalCancel-clause-step c)).1

pub returns-in-Timeout-clause-step : goal.returns-in-Timeout-clause-step
unfolding change_row
returns-in-Timeout-clause-step c = rw c.in-Timeout.is (search rules)

pub returns-in-Timeout-clause-table : goal.returns-in-Timeout-clause-table
returns-in-Timeout-clause-table c = (change_said c.args.row c.args.change _ (returns-in-Timeout-clause-step c)).1

pub returns-in-Complete-clause-step : goal.returns-in-Complete-clause-step
unfolding change_row
returns-in-Complete-clause-step c = rw c.in-Complete.is (search rules)

pub returns-in-Complete-clause-table : goal.returns-in-Complete-clause-table
returns-in-Complete-clause-table c = (change_said c.args.row c.args.change _ (returns-in-Complete-clause-step c)).1

pub returns-in-Fail-clause-step : goal.returns-in-Fail-clause-step
unfolding change_row
returns-in-Fail-clause-step c = rw c.in-Fail.is (search rules)

pub returns-in-Fail-clause-table : goal.returns-in-Fail-clause-table
returns-in-Fail-clause-table c = (change_said c.args.row c.args.change _ (returns-in-Fail-clause-step c)).1

pub returns-in-ConfirmAbort-clause-step : goal.returns-in-ConfirmAbort-clause-step
unfolding change_row
returns-in-ConfirmAbort-clause-step c = rw c.in-ConfirmAbort.is (search rules)

pub returns-in-ConfirmAbort-clause-table : goal.returns-in-ConfirmAbort-clause-table
returns-in-ConfirmAbort-clause-table c = (change_said c.args.row c.args.change _ (returns-in-ConfirmAbort-clause-step c)).1

pub returns-in-Reclaim-clause-step : goal.returns-in-Reclaim-clause-step
unfolding change_row
returns-in-Reclaim-clause-step c = rw c.in-Reclaim.is (search rules)

pub returns-in-Reclaim-clause-table : goal.returns-in-Reclaim-clause-table
returns-in-Reclaim-clause-table c = (change_said c.args.row c.args.change _ (returns-in-Reclaim-clause-step c)).1

pub returns-in-WithdrawCancel-clause-step : goal.returns-in-WithdrawCancel-clause-step
unfolding change_row
returns-in-WithdrawCancel-clause-step c = rw c.in-WithdrawCancel.is (search rules)

pub returns-in-WithdrawCancel-clause-table : goal.returns-in-WithdrawCancel-clause-table
returns-in-WithdrawCancel-clause-table c = (change_said c.args.row c.args.change _ (returns-in-WithdrawCancel-clause-step c)).1
