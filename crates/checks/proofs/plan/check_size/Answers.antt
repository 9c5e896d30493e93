use Rattle.chain.proofs.Chain.{chain}
use Rattle.checks.specs.Plan.{size_checked}
use Rattle.checks.proofs.plan.check_size.Goals as goal

pub returns-then-v-gt-LONGEST : goal.returns-then-v-gt-LONGEST
unfolding size_checked
returns-then-v-gt-LONGEST c = search chain depth 20

pub returns-then-v : goal.returns-then-v
unfolding size_checked
returns-then-v c = search chain depth 20

pub returns-then-v-2 : goal.returns-then-v-2
unfolding size_checked
returns-then-v-2 c = search chain depth 20

pub returns : goal.returns
unfolding size_checked
returns c = search chain depth 20
