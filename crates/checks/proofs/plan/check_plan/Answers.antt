use Rattle.chain.proofs.Chain.{chain}
use Rattle.checks.specs.Plan.{plan_checked}
use Rattle.checks.proofs.plan.check_plan.Goals as goal

pub returns-then-not-v : goal.returns-then-not-v
unfolding plan_checked
returns-then-not-v c = search chain depth 20

pub returns-then-v : goal.returns-then-v
unfolding plan_checked
returns-then-v c = search chain depth 20

pub returns-then-v-2 : goal.returns-then-v-2
unfolding plan_checked
returns-then-v-2 c = search chain depth 20

pub returns : goal.returns
unfolding plan_checked
returns c = search chain depth 20
