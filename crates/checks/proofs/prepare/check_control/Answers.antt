use Rattle.chain.proofs.Chain.{chain}
use Rattle.checks.specs.Prepare.{control_checked}
use Rattle.checks.proofs.prepare.check_control.Goals as goal

pub returns-then-v-length : goal.returns-then-v-length
unfolding control_checked
returns-then-v-length c = search chain depth 20

pub returns-then-not-v : goal.returns-then-not-v
unfolding control_checked
returns-then-not-v c = search chain depth 20

pub returns-then-v-length-2 : goal.returns-then-v-length-2
unfolding control_checked
returns-then-v-length-2 c = search chain depth 20

pub returns-then-v : goal.returns-then-v
unfolding control_checked
returns-then-v c = search chain depth 20

pub returns-then-is_reserved : goal.returns-then-is_reserved
unfolding control_checked
returns-then-is_reserved c = search chain depth 20

pub returns-then-kind-request : goal.returns-then-kind-request
unfolding control_checked
returns-then-kind-request c = search chain depth 20

pub returns : goal.returns
unfolding control_checked
returns c = search chain depth 20
