use Rattle.scope.proofs.returned.Laws.{Summed}
use Rattle.scope.proofs.returned.sums_to.Given as goal

abbrev pub invariant-loop-k : goal.invariant-loop-k
invariant-loop-k l = Summed l.words l.n l.size l.sum l.k
