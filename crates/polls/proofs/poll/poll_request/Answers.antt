use Rattle.polls.proofs.poll.Laws.{poll_stop, poll_none, poll_at}
use Rattle.ledger.proofs.Found.{found_in_lem}
use Rattle.rows.specs.Store.{store_of}
use Rattle.polls.proofs.Said.{poll_said_lem}
use Rattle.polls.proofs.poll.poll_request.Goals as goal

pub returns-in_default-clause-step : goal.returns-in_default-clause-step
unfolding store_of
returns-in_default-clause-step c = search poll_none

pub returns-in_default-clause-table : goal.returns-in_default-clause-table
returns-in_default-clause-table c = (poll_said_lem _ _ _ _ (returns-in_default-clause-step c)).1

pub read_row-row-requires : goal.read_row-row-requires
read_row-row-requires c = search found_in_lem

pub returns-in-Err-clause-step : goal.returns-in-Err-clause-step
unfolding store_of
returns-in-Err-clause-step c = search poll_stop

pub returns-in-Err-clause-table : goal.returns-in-Err-clause-table
returns-in-Err-clause-table c = (poll_said_lem _ _ _ _ (returns-in-Err-clause-step c)).1

pub returns-in-Some-clause-step : goal.returns-in-Some-clause-step
unfolding store_of
returns-in-Some-clause-step c = search poll_at

pub returns-in-Some-clause-table : goal.returns-in-Some-clause-table
returns-in-Some-clause-table c = (poll_said_lem _ _ _ _ (returns-in-Some-clause-step c)).1
