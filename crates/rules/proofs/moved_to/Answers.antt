use Rattle.rules.specs.Rules.{moved}
use Rattle.rules.proofs.moved_to.Goals as goal

pub returns : goal.returns
unfolding moved
returns c = rw c.report_of.ensures
