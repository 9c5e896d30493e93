use Rattle.rules.proofs.Rules.{settled, withdraw_none, withdraw_to}
use Rattle.rules.specs.Rules.{cancel_withdrawn}
use Rattle.rules.proofs.flags.withdraw_cancel.Goals as goal

pub returns-in_default : goal.returns-in_default
unfolding cancel_withdrawn
returns-in_default c = search settled

pub returns-then-not-logical_cancel : goal.returns-then-not-logical_cancel
returns-then-not-logical_cancel c = search withdraw_none

pub returns : goal.returns
returns c = search withdraw_to
