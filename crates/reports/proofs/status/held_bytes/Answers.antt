use Rattle.std.proofs.Common.{rules}
use Rattle.rows.specs.Store.{store_of}
use Rattle.reports.proofs.Said.{held_bytes_said}
use Rattle.reports.proofs.status.Laws.{bytes_unfit, bytes_on}
use Rattle.reports.proofs.status.held_bytes.Goals as goal

pub returns-in_err-rows_sized-clause-step : goal.returns-in_err-rows_sized-clause-step
unfolding store_of
returns-in_err-rows_sized-clause-step c = search (rules, bytes_unfit)

pub returns-in_err-rows_sized-clause-table : goal.returns-in_err-rows_sized-clause-table
returns-in_err-rows_sized-clause-table c = (held_bytes_said _ _ _ (returns-in_err-rows_sized-clause-step c)).1

pub returns-clause-step : goal.returns-clause-step
unfolding store_of
returns-clause-step c = search (rules, bytes_on)

pub returns-clause-table : goal.returns-clause-table
returns-clause-table c = (held_bytes_said _ _ _ (returns-clause-step c)).1
