use Rattle.session.proofs.Outcomes.{open_unfit, open_new}
use Rattle.rows.specs.Store.{store_of}
use Rattle.bus.specs.Tables.{bus_of}
use Rattle.session.proofs.Said.{open_said}
use Rattle.session.proofs.lifecycle.open.Goals as goal

pub returns-then-not-lent_fits-clause-step : goal.returns-then-not-lent_fits-clause-step
unfolding store_of bus_of
returns-then-not-lent_fits-clause-step c = search open_unfit

pub returns-then-not-lent_fits-clause-table : goal.returns-then-not-lent_fits-clause-table
returns-then-not-lent_fits-clause-table c = (open_said _ _ _ _ (returns-then-not-lent_fits-clause-step c)).1

pub returns-clause-step : goal.returns-clause-step
unfolding store_of bus_of
returns-clause-step c = search open_new

pub returns-clause-table : goal.returns-clause-table
returns-clause-table c = (open_said _ _ _ _ (returns-clause-step c)).1
