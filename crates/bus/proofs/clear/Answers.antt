use Rattle.bus.proofs.Opening.{opened}
use Rattle.bus.proofs.clear.Goals as goal

pub returns : goal.returns
returns c = search opened
