use Rattle.recovery.proofs.entries.Laws.{Aborting}
use Rattle.recovery.proofs.entries.abort_all.Given as goal

abbrev pub invariant-loop-i : goal.invariant-loop-i
invariant-loop-i l = Aborting l.places l.initial.rows l.rows l.i-index
