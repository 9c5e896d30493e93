use Rattle.rules.proofs.Rules.{settled, timeout_to}
use Rattle.rules.specs.Rules.{time_out}
use Rattle.rules.proofs.flags.timeout.Goals as goal

pub returns-in_default : goal.returns-in_default
unfolding time_out
returns-in_default c = search settled

pub returns : goal.returns
returns c = search timeout_to
