use lib.ListN.{length, replicate}
use Rattle.words.proofs.Parts.{Filled}
use Rattle.words.proofs.slices.fill_all.Given as goal

abbrev pub invariant-loop-slot : goal.invariant-loop-slot
invariant-loop-slot g l = Filled (length l.initial.dst) l.slot-index (replicate (length l.initial.dst) l.x) l.dst
