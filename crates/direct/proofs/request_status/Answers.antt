use Rattle.direct.proofs.Laws.{status_at, status_none, status_unfit}
use Rattle.reports.proofs.status.Laws.{shown_in}
use Rattle.rows.specs.Store.{store_of}
use Rattle.direct.proofs.request_status.Goals as goal

pub returns-then-not-rows_fit : goal.returns-then-not-rows_fit
unfolding store_of
returns-then-not-rows_fit c = search status_unfit

pub returns-in_default : goal.returns-in_default
unfolding store_of
returns-in_default c = search status_none

pub report-requires : goal.report-requires
report-requires c = search shown_in

pub returns : goal.returns
unfolding store_of
returns c = search status_at
