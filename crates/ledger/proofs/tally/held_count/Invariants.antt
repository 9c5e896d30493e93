use Rattle.rows.specs.Table.{read_rows}
use Rattle.ledger.proofs.tally.Laws.{Counted}
use Rattle.ledger.proofs.tally.held_count.Given as goal

abbrev pub invariant-loop-i : goal.invariant-loop-i
invariant-loop-i l = Counted (read_rows l.rows) l.i l.total
