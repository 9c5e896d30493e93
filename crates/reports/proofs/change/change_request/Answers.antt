use Rattle.reports.proofs.change.Laws.{change_stop, change_on}
use Rattle.rows.specs.Store.{store_of}
use Rattle.reports.proofs.change.change_request.Goals as goal

pub returns-in-Err : goal.returns-in-Err
unfolding store_of
returns-in-Err c = search change_stop

pub returns-in-Ok : goal.returns-in-Ok
unfolding store_of
returns-in-Ok c = search change_on
