use Rattle.chain.proofs.Chain.{chain}
use Rattle.checks.specs.Plan.{stages_checked}
use Rattle.checks.proofs.plan.check_stages.Goals as goal

pub returns-then-is_reserved : goal.returns-then-is_reserved
unfolding stages_checked
returns-then-is_reserved c = search chain depth 20

pub returns-then-v : goal.returns-then-v
unfolding stages_checked
returns-then-v c = search chain depth 20

pub returns-then-v-2 : goal.returns-then-v-2
unfolding stages_checked
returns-then-v-2 c = search chain depth 20

pub returns : goal.returns
unfolding stages_checked
returns c = search chain depth 20
