use Rattle.recovery.proofs.Said.{recover_said}
use Rattle.recovery.proofs.recover.Laws.{begin_stop, begin_40, begin_on}
use Rattle.rows.specs.Store.{store_of}
use Rattle.ledger.proofs.Found.{found_in_lem}
use Rattle.recovery.proofs.recover.begin_recovery.Goals as goal

pub returns-in_default-clause-step : goal.returns-in_default-clause-step
unfolding store_of
returns-in_default-clause-step c = search begin_40

pub returns-in_default-clause-table : goal.returns-in_default-clause-table
returns-in_default-clause-table c = (recover_said _ _ _ _ _ (returns-in_default-clause-step c)).1

pub read_row-row-requires : goal.read_row-row-requires
unfolding store_of
read_row-row-requires c = search found_in_lem

pub returns-in-Err-clause-step : goal.returns-in-Err-clause-step
unfolding store_of
returns-in-Err-clause-step c = search begin_stop

pub returns-in-Err-clause-table : goal.returns-in-Err-clause-table
returns-in-Err-clause-table c = (recover_said _ _ _ _ _ (returns-in-Err-clause-step c)).1

pub returns-in-Some-clause-step : goal.returns-in-Some-clause-step
unfolding store_of
returns-in-Some-clause-step c = search begin_on

pub returns-in-Some-clause-table : goal.returns-in-Some-clause-table
returns-in-Some-clause-table c = (recover_said _ _ _ _ _ (returns-in-Some-clause-step c)).1
