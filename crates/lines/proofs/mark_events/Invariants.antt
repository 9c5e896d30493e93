use Prim.Native.Nat.{◌*◌, ◌≤◌}
use mathlib.Core.Path.{◌≡◌}
use lib.ListN.{length, drop}
use Rattle.rows.specs.Store.{store_of}
use Rattle.bus.specs.Tables.{bus_of}
use Rattle.session.specs.Lent.{memory, lent}
use Rattle.calls.specs.Step.{world}
use Rattle.paper.specs.Events.{events_of}
use Rattle.lines.specs.Lines.{line_room, text_from}
use Rattle.lines.proofs.mark_events.Given as goal

abbrev pub invariant-loop-i : goal.invariant-loop-i
invariant-loop-i l = (length l.out ≡ length l.initial.out) × (length l.bus ≡ length l.initial.bus) × (length l.rows ≡ length l.initial.rows) × (length l.area ≡ length l.initial.area)
    × (l.at ≤ l.i * line_room)
    × (text_from l.i (drop l.i (events_of l.paper)) (world l.own (lent (bus_of l.bus) (memory (store_of l.rows) l.area))) l.at l.out
    ≡ text_from 0 (events_of l.paper) (world l.initial.own (lent (bus_of l.initial.bus) (memory (store_of l.initial.rows) l.initial.area))) 0 l.initial.out)
