use Rattle.rows.specs.Table.{read_rows}
use Rattle.ledger.specs.Tally.{held_length}
use Rattle.ledger.proofs.tally.Laws.{Tallied}
use Rattle.ledger.proofs.tally.held_bytes.Given as goal

abbrev pub invariant-loop-i : goal.invariant-loop-i
invariant-loop-i l = Tallied 64 held_length (read_rows l.rows) l.i l.total
