use Rattle.paper_session.proofs.Laws.{Placed}
use mathlib.Core.Path.{◌≡◌}
use lib.ListN.{length}
use Rattle.bus.specs.Tables.{bus_of}
use Rattle.paper_session.proofs.place_slots.Given as goal

abbrev pub invariant-loop-slot : goal.invariant-loop-slot
invariant-loop-slot l = (length l.bus ≡ length l.initial.bus) × Placed l.slot l.session (bus_of l.initial.bus) (bus_of l.bus)
