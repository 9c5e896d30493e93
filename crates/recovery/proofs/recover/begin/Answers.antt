use Rattle.recovery.proofs.recover.Laws.{begun_is}
use Rattle.recovery.proofs.recover.begin.Goals as goal

pub returns : goal.returns
returns c = search begun_is
