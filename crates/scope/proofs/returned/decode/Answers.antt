use Rattle.scope.specs.Returned.{read_brought}
use Rattle.scope.proofs.returned.decode.Goals as goal

pub returns : goal.returns
unfolding read_brought
returns c = cc
