use Rattle.chain.proofs.Chain.{chain}
use Rattle.checks.specs.Prepare.{other_checked}
use Rattle.checks.proofs.prepare.check_other.Goals as goal

pub returns-then-v : goal.returns-then-v
unfolding other_checked
returns-then-v c = search chain depth 20

pub returns-then-v-2 : goal.returns-then-v-2
unfolding other_checked
returns-then-v-2 c = search chain depth 20

pub returns : goal.returns
unfolding other_checked
returns c = search chain depth 20
