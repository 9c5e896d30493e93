use Rattle.rules.proofs.Rules.{settled, cancel_to}
use Rattle.rules.specs.Rules.{logical_cancel}
use Rattle.rules.proofs.flags.logical_cancel.Goals as goal

pub returns-in_default : goal.returns-in_default
unfolding logical_cancel
returns-in_default c = search settled

pub returns : goal.returns
returns c = search cancel_to
