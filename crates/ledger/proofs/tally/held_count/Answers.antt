use Rattle.std.proofs.Common.{arith}
use Rattle.ledger.proofs.tally.Laws.{counted_on, counted_end, cut_is}
use Rattle.ledger.proofs.tally.held_count.Goals as goal

pub loop-i-preserved : goal.loop-i-preserved
loop-i-preserved c = (omega arith, search counted_on)

pub returns : goal.returns
returns c = counted_end _ c.count-i-end.result c.loop-i.i _ 8 _ c.loop-i-test.false c.count-i-end.ensures c.loop-i.invariant.1 (cut_is _ _ _ c.try_from.ensures c.unwrap_or.ensures)
