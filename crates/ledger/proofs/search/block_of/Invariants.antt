use Rattle.std.proofs.Common.{◌*◌, ◌≤◌}
use Rattle.chain.specs.Lists.{find}
use Rattle.rows.specs.Table.{read_rows}
use Rattle.ledger.specs.Search.{has_sequence}
use Rattle.ledger.proofs.search.block_of.Given as goal

abbrev pub invariant-loop-block : goal.invariant-loop-block
invariant-loop-block l = l.block * 64 ≤ find (has_sequence l.sequence) (read_rows l.rows)
