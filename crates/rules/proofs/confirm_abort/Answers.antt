use Rattle.chain.proofs.Chain.{chain}
use Rattle.rules.specs.Rules.{abort_confirmed}
use Rattle.rules.proofs.confirm_abort.Goals as goal

pub returns-then-not-device_may_access : goal.returns-then-not-device_may_access
unfolding abort_confirmed
returns-then-not-device_may_access c = search chain depth 20

pub returns : goal.returns
unfolding abort_confirmed
returns c = search chain depth 20
