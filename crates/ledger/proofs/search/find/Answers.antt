use Rattle.std.proofs.Common.{rules}
use Rattle.ledger.specs.Search.{is_at}
use Rattle.ledger.proofs.search.Laws.{near_at, block_before, found_all}
use Rattle.ledger.proofs.search.find.Goals as goal

pub returns-then-is_some : goal.returns-then-is_some
returns-then-is_some c = search near_at

pub scan-requires : goal.scan-requires
scan-requires c = search (rules, block_before)

pub returns : goal.returns
returns c = search (found_all (is_at c.args.id))
