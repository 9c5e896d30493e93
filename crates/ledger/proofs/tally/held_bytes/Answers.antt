use Rattle.ledger.specs.Tally.{held_bytes, held_length}
use Rattle.ledger.proofs.tally.Laws.{tally_start, tally_on, tally_end}
use Rattle.ledger.proofs.tally.held_bytes.Goals as goal

pub loop-i-init : goal.loop-i-init
loop-i-init c = tally_start 64

pub loop-i-preserved : goal.loop-i-preserved
loop-i-preserved c = search (tally_on 64 held_length)

pub returns : goal.returns
unfolding held_bytes
returns c = search (tally_end 64 held_length)
