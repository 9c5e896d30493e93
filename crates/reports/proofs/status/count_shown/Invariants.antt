use Rattle.rows.specs.Table.{read_rows}
use Rattle.reports.proofs.status.Laws.{Counted}
use Rattle.reports.proofs.status.count_shown.Given as goal

abbrev pub invariant-loop-i : goal.invariant-loop-i
invariant-loop-i l = Counted l.flight (read_rows l.rows) l.i l.total
