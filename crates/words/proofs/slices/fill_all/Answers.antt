use native.Mathlib.Omega.{arith}
use Rattle.std.proofs.Common.{◌<◌, length, length-set}
use Rattle.words.proofs.Parts.{clear_step}
use Rattle.words.proofs.slices.fill_all.Goals as goal

pub loop-slot-preserved : goal.loop-slot-preserved
loop-slot-preserved g c =
    let i = c.loop-slot.invariant in
    let below : c.loop-slot.slot-index < length c.loop-slot.dst = omega arith in
    (omega arith, rw length-set i.1, clear_step _ _ _ _ below i.1 i.2)
