use Rattle.ledger.proofs.search.Laws.{block_on, block_here, block_last}
use Rattle.ledger.proofs.search.block_of.Goals as goal

pub returns-then-count_sequence-ne0 : goal.returns-then-count_sequence-ne0
returns-then-count_sequence-ne0 c = search block_here

pub loop-block-preserved : goal.loop-block-preserved
loop-block-preserved c = search block_on

pub returns : goal.returns
returns c = search block_last
