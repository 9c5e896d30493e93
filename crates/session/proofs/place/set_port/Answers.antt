use Rattle.std.proofs.Common.{rules}
use Rattle.session.proofs.Outcomes.{place_stop, place_on}
use Rattle.session.proofs.start.Laws.{bus_fits_lem}
use Rattle.session.specs.Place.{set_port_of}
use Rattle.bus.specs.Tables.{bus_of}
use Rattle.session.proofs.Said.{placed_said_lem, set_port_call_tabled}
use Rattle.session.specs.Said.{set_port_numbers}
use Rattle.session.proofs.place.set_port.Goals as goal

pub returns-in_err-bus_ready-clause-step : goal.returns-in_err-bus_ready-clause-step
unfolding set_port_of bus_of
returns-in_err-bus_ready-clause-step c = search (rules, place_stop)

pub returns-in_err-bus_ready-clause-table : goal.returns-in_err-bus_ready-clause-table
returns-in_err-bus_ready-clause-table c = (placed_said_lem set_port_numbers _ _ _ (returns-in_err-bus_ready-clause-step c) (set_port_call_tabled _ _ _ _)).1

pub set_port-requires : goal.set_port-requires
set_port-requires c = search (rules, bus_fits_lem)

pub returns-clause-step : goal.returns-clause-step
unfolding set_port_of bus_of
returns-clause-step c = search (rules, place_on)

pub returns-clause-table : goal.returns-clause-table
returns-clause-table c = (placed_said_lem set_port_numbers _ _ _ (returns-clause-step c) (set_port_call_tabled _ _ _ _)).1
