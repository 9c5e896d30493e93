use lib.ListN.{length}
use Rattle.words.proofs.Parts.{Filled}
use Rattle.words.proofs.slices.copy_all.Given as goal

abbrev pub invariant-loop-k : goal.invariant-loop-k
invariant-loop-k g l = Filled (length l.src) l.k l.src l.dst
