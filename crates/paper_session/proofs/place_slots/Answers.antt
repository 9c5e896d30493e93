use Prim.Native.Nat.{◌+◌}
use native.Mathlib.Omega.{arith}
use borrow.Author.Rules.{rules}
use Rattle.paper_session.proofs.Laws.{none_placed, next_placed, all_placed}
use Rattle.paper_session.proofs.place_slots.Goals as goal

pub loop-slot-init : goal.loop-slot-init
loop-slot-init c = (search rules, search none_placed)

pub loop-slot-preserved : goal.loop-slot-preserved
loop-slot-preserved c = (search rules, search next_placed)

pub returns-2 : goal.returns-2
returns-2 c = all_placed (c.loop-slot.slot + 1) _ _ _ (omega arith) (omega arith) (next_placed _ _ _ _ _ c.loop-slot.invariant.1 c.place_slot.ensures)
