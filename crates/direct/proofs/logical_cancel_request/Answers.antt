use Rattle.direct.proofs.Laws.{change_stop, cancel_on}
use Rattle.ledger.proofs.in_place.Laws.{cancel_inside}
use Rattle.rows.specs.Store.{store_of}
use Rattle.direct.proofs.logical_cancel_request.Goals as goal

pub answer_placed-requires : goal.answer_placed-requires
answer_placed-requires c = search cancel_inside

pub returns-in-Err : goal.returns-in-Err
unfolding store_of
returns-in-Err c = search change_stop

pub returns-in-Ok : goal.returns-in-Ok
unfolding store_of
returns-in-Ok c = search cancel_on
