use Rattle.rows.specs.Table.{read_rows}
use Rattle.ledger.proofs.search.Laws.{CountedBefore}
use Rattle.ledger.proofs.search.count_sequence.Given as goal

abbrev pub invariant-loop-i : goal.invariant-loop-i
invariant-loop-i l = CountedBefore l.sequence (read_rows l.rows) l.i l.total
