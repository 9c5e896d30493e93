use Rattle.chain.proofs.Chain.{chain}
use Rattle.rules.specs.Rules.{reclaimed}
use Rattle.rules.proofs.reclaim.Goals as goal

pub returns-then-device_may_access : goal.returns-then-device_may_access
unfolding reclaimed
returns-then-device_may_access c = search chain depth 20

pub returns : goal.returns
unfolding reclaimed
returns c = search chain depth 20
