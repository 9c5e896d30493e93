use Rattle.recovery.proofs.entries.Laws.{Completing}
use Rattle.recovery.proofs.entries.complete_all.Given as goal

abbrev pub invariant-loop-k : goal.invariant-loop-k
invariant-loop-k l = Completing l.size l.places l.completions l.bytes l.initial.rows l.initial.area l.rows l.area l.at l.k
