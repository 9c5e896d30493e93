use Rattle.rules.proofs.Rules.{settled, fail_to}
use Rattle.rules.specs.Rules.{failed}
use Rattle.rules.proofs.fail.Goals as goal

pub returns-in_default : goal.returns-in_default
unfolding failed
returns-in_default c = search settled

pub returns : goal.returns
returns c = search fail_to
