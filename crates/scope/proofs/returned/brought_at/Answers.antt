use Rattle.scope.proofs.returned.Laws.{brought_is}
use Rattle.scope.proofs.returned.brought_at.Goals as goal

pub returns : goal.returns
returns c = search brought_is
