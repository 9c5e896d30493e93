use Rattle.session.proofs.Outcomes.{close_stop, close_closed, close_none, close_on}
use Rattle.rows.specs.Store.{store_of}
use Rattle.session.proofs.Said.{close_said}
use Rattle.session.proofs.lifecycle.close.Goals as goal

pub returns-then-is_closed-clause-step : goal.returns-then-is_closed-clause-step
unfolding store_of
returns-then-is_closed-clause-step c = search close_closed

pub returns-then-is_closed-clause-table : goal.returns-then-is_closed-clause-table
returns-then-is_closed-clause-table c = (close_said _ _ _ _ _ _ (returns-then-is_closed-clause-step c)).1

pub returns-in_default-clause-step : goal.returns-in_default-clause-step
unfolding store_of
returns-in_default-clause-step c = search close_none

pub returns-in_default-clause-table : goal.returns-in_default-clause-table
returns-in_default-clause-table c = (close_said _ _ _ _ _ _ (returns-in_default-clause-step c)).1

pub returns-in-Err-clause-step : goal.returns-in-Err-clause-step
unfolding store_of
returns-in-Err-clause-step c = search close_stop

pub returns-in-Err-clause-table : goal.returns-in-Err-clause-table
returns-in-Err-clause-table c = (close_said _ _ _ _ _ _ (returns-in-Err-clause-step c)).1

pub returns-in-Some-clause-step : goal.returns-in-Some-clause-step
unfolding store_of
returns-in-Some-clause-step c = search close_on

pub returns-in-Some-clause-table : goal.returns-in-Some-clause-table
returns-in-Some-clause-table c = (close_said _ _ _ _ _ _ (returns-in-Some-clause-step c)).1
