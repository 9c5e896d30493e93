use Rattle.words.proofs.Parts.{cleared}
use Rattle.words.proofs.slices.fill.Goals as goal

pub returns : goal.returns
returns g c = search cleared
