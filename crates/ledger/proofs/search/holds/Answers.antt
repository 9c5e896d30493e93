use Rattle.std.proofs.Common.{rules, tests}
use Rattle.ledger.specs.Search.{is_at}
use Rattle.ledger.proofs.search.Laws.{other_sequence}
use Rattle.ledger.proofs.search.holds.Goals.{then-sequence_at-id, else-sequence_at-id}
use Rattle.ledger.proofs.search.holds.Goals as goal

pub returns-then-used_at : goal.returns-then-used_at
unfolding is_at
returns-then-used_at c = elim c.if-sequence_at-id.branch [ then-sequence_at-id w ↦ search (rules, tests) | else-sequence_at-id w ↦ search (rules, tests) ]

pub returns-else-used_at : goal.returns-else-used_at
unfolding is_at
returns-else-used_at c =
    elim c.if-sequence_at-id.branch [
      | then-sequence_at-id w ↦ search (rules, tests)
      | else-sequence_at-id w ↦ search (rules, tests, other_sequence)
    ]
