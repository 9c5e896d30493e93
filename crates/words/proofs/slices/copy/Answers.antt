use Rattle.words.proofs.Parts.{copied}
use Rattle.words.proofs.slices.copy.Goals as goal

pub returns : goal.returns
returns g c = search copied
