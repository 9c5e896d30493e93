use Rattle.direct.proofs.Laws.{change_stop, reclaim_on}
use Rattle.ledger.proofs.in_place.Laws.{reclaim_inside}
use Rattle.rows.specs.Store.{store_of}
use Rattle.direct.proofs.reclaim_request.Goals as goal

pub free_placed-requires : goal.free_placed-requires
free_placed-requires c = search reclaim_inside

pub returns-in-Err : goal.returns-in-Err
unfolding store_of
returns-in-Err c = search change_stop

pub returns-in-Ok : goal.returns-in-Ok
unfolding store_of
returns-in-Ok c = search reclaim_on
