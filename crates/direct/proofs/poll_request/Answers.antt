use Rattle.direct.proofs.Laws.{found_used, idle, poll_at, poll_none, poll_stop}
use Rattle.ledger.proofs.Found.{found_in_lem}
use Rattle.rows.specs.Store.{store_of}
use Rattle.direct.proofs.poll_request.Goals as goal

pub returns-in_default : goal.returns-in_default
unfolding store_of
returns-in_default c = search poll_none

pub poll_row-requires : goal.poll_row-requires
unfolding store_of
poll_row-requires c = search (idle, found_in_lem, found_used)

pub returns-in-Err : goal.returns-in-Err
unfolding store_of
returns-in-Err c = search poll_stop

pub returns-in-Some : goal.returns-in-Some
unfolding store_of
returns-in-Some c = search poll_at
