use Rattle.targets.proofs.target.Laws.{fresh_is}
use Rattle.targets.proofs.target.fresh_device.Goals as goal

pub returns : goal.returns
returns c = search fresh_is
