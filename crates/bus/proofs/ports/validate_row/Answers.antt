use Rattle.bus.specs.Ports.{reading_checked}
use Rattle.bus.proofs.ports.Laws.{row_stale, row_read}
use borrow.Author.Rules.{rules}
use Rattle.bus.proofs.ports.validate_row.Goals as goal

pub returns-then-same-id : goal.returns-then-same-id
returns-then-same-id c = search row_stale

pub returns : goal.returns
unfolding reading_checked
returns c = search (row_read, rules)
