use Rattle.std.proofs.Common.{rules}
use Rattle.rows.specs.Store.{store_of}
use Rattle.reports.proofs.Said.{next_said_lem}
use Rattle.reports.proofs.status.Laws.{next_unfit, next_on}
use Rattle.reports.proofs.status.request_reports.Goals as goal

pub returns-in_err-rows_sized-clause-step : goal.returns-in_err-rows_sized-clause-step
unfolding store_of
returns-in_err-rows_sized-clause-step c = search (rules, next_unfit)

pub returns-in_err-rows_sized-clause-table : goal.returns-in_err-rows_sized-clause-table
returns-in_err-rows_sized-clause-table c = (next_said_lem _ _ _ _ (returns-in_err-rows_sized-clause-step c)).1

pub returns-clause-step : goal.returns-clause-step
unfolding store_of
returns-clause-step c = search (rules, next_on)

pub returns-clause-table : goal.returns-clause-table
returns-clause-table c = (next_said_lem _ _ _ _ (returns-clause-step c)).1
