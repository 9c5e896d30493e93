use Rattle.chain.proofs.Listed.{list_end}
use Rattle.recovery.proofs.entries.places_of.Goals as goal

pub returns : goal.returns
returns c = search list_end
