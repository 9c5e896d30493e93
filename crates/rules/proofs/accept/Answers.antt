use Rattle.rules.specs.Rules.{accepted}
use Rattle.rules.proofs.accept.Goals as goal

pub returns : goal.returns
unfolding accepted
returns c = c.moved_to.ensures
