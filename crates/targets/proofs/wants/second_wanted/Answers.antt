use Rattle.chain.proofs.Chain.{chain}
use Rattle.targets.specs.Wants.{second_wanted}
use Rattle.targets.proofs.wants.second_wanted.Goals as goal

pub returns-then-is_control : goal.returns-then-is_control
unfolding second_wanted
returns-then-is_control c = search chain depth 20

pub returns-then-not-is_configured : goal.returns-then-not-is_configured
unfolding second_wanted
returns-then-not-is_configured c = search chain depth 20

pub returns-then-not-is_missing : goal.returns-then-not-is_missing
unfolding second_wanted
returns-then-not-is_missing c = search chain depth 20

pub returns : goal.returns
unfolding second_wanted
returns c = search chain depth 20
