use Rattle.std.proofs.Common.{rules}
use Rattle.rows.specs.Store.{store_of}
use Rattle.reports.proofs.Said.{status_said}
use Rattle.reports.proofs.status.Laws.{shown_in, told, untold, untold_by, status_unfit, status_none, status_at}
use Rattle.reports.proofs.status.request_status.Goals as goal

pub returns-in_err-rows_sized-clause-step : goal.returns-in_err-rows_sized-clause-step
unfolding store_of
returns-in_err-rows_sized-clause-step c = search (rules, status_unfit)

pub returns-in_err-rows_sized-clause-table : goal.returns-in_err-rows_sized-clause-table
returns-in_err-rows_sized-clause-table c = (status_said _ _ _ _ (returns-in_err-rows_sized-clause-step c)).1

pub returns-in_err-ok_or-clause-step : goal.returns-in_err-ok_or-clause-step
unfolding store_of
returns-in_err-ok_or-clause-step c = search (rules, status_none, untold, untold_by)

pub returns-in_err-ok_or-clause-table : goal.returns-in_err-ok_or-clause-table
returns-in_err-ok_or-clause-table c = (status_said _ _ _ _ (returns-in_err-ok_or-clause-step c)).1

pub read_row-row-requires : goal.read_row-row-requires
read_row-row-requires c = search (rules, shown_in, told)

pub returns-clause-step : goal.returns-clause-step
unfolding store_of
returns-clause-step c =
    status_at _ _ _ _ c.rows_sized.ensures c.in_ok-rows_sized.was _ c.find_shown-found.ensures _ _ _ (told _ _ _ c.ok_or.ensures.ok_part c.in_ok-ok_or.was)
    c.read_row-row.ensures c.report_of.ensures

pub returns-clause-table : goal.returns-clause-table
returns-clause-table c = (status_said _ _ _ _ (returns-clause-step c)).1
