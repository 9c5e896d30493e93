use Rattle.std.proofs.Common.{rules}
use Rattle.session.proofs.Outcomes.{place_stop, place_on, pass_to}
use Rattle.session.proofs.start.Laws.{bus_fits_lem}
use Rattle.session.specs.Place.{set_device_of}
use Rattle.bus.specs.Tables.{bus_of}
use Rattle.session.proofs.Said.{placed_said_lem, set_device_tabled}
use Rattle.session.specs.Said.{place_numbers}
use Rattle.session.proofs.place.set_device.Goals as goal

pub returns-in_err-bus_ready-clause-step : goal.returns-in_err-bus_ready-clause-step
unfolding set_device_of bus_of
returns-in_err-bus_ready-clause-step c = search (rules, place_stop)

pub returns-in_err-bus_ready-clause-table : goal.returns-in_err-bus_ready-clause-table
returns-in_err-bus_ready-clause-table c = (placed_said_lem place_numbers _ _ _ (returns-in_err-bus_ready-clause-step c) (set_device_tabled _ _ _)).1

pub set_device-requires : goal.set_device-requires
set_device-requires c = search (rules, bus_fits_lem)

pub returns-clause-step : goal.returns-clause-step
unfolding set_device_of bus_of
returns-clause-step c = search (rules, place_on, pass_to)

pub returns-clause-table : goal.returns-clause-table
returns-clause-table c = (placed_said_lem place_numbers _ _ _ (returns-clause-step c) (set_device_tabled _ _ _)).1
