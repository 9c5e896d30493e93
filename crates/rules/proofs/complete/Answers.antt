use Rattle.rules.proofs.Rules.{settled, complete_to}
use Rattle.rules.specs.Rules.{completed}
use Rattle.rules.proofs.complete.Goals as goal

pub returns-in_default : goal.returns-in_default
unfolding completed
returns-in_default c = search settled

pub returns : goal.returns
returns c = search complete_to
