use Rattle.chain.specs.Lists.{find}
use Rattle.rows.specs.Table.{read_rows}
use Rattle.std.specs.Prelude.{◌≤◌}
use Rattle.ledger.specs.Search.{is_free}
use Rattle.ledger.proofs.search.first_free.Given as goal

abbrev pub invariant-loop-i : goal.invariant-loop-i
invariant-loop-i l = l.i ≤ find is_free (read_rows l.rows)
