use Rattle.std.proofs.Common.{rules}
use Rattle.rows.specs.Store.{store_of}
use Rattle.reports.proofs.Said.{held_count_said}
use Rattle.reports.proofs.status.Laws.{held_unfit, held_on}
use Rattle.reports.proofs.status.held_count.Goals as goal

pub returns-in_err-rows_sized-clause-step : goal.returns-in_err-rows_sized-clause-step
unfolding store_of
returns-in_err-rows_sized-clause-step c = search (rules, held_unfit)

pub returns-in_err-rows_sized-clause-table : goal.returns-in_err-rows_sized-clause-table
returns-in_err-rows_sized-clause-table c = (held_count_said _ _ _ (returns-in_err-rows_sized-clause-step c)).1

pub returns-clause-step : goal.returns-clause-step
unfolding store_of
returns-clause-step c = search (rules, held_on)

pub returns-clause-table : goal.returns-clause-table
returns-clause-table c = (held_count_said _ _ _ (returns-clause-step c)).1
