use Rattle.scope.specs.Scope.{Rises}
use Rattle.scope.proofs.tokens.Laws.{Marking}
use Rattle.scope.proofs.tokens.each_once.Given as goal

abbrev pub invariant-loop-k : goal.invariant-loop-k
invariant-loop-k l = Rises l.rising l.own × Marking l.own l.tokens l.aborted l.n l.marks l.k
