use Rattle.std.proofs.Common.{arith}
use Rattle.ledger.proofs.search.Laws.{word_most, sequence_start, sequence_on}
use Rattle.ledger.proofs.search.count_sequence.Goals as goal

pub loop-i-init : goal.loop-i-init
loop-i-init c = (omega arith, search sequence_start)

pub loop-i-preserved : goal.loop-i-preserved
loop-i-preserved c = (omega (arith, word_most), search sequence_on)
