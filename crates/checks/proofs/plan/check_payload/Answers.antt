use Rattle.chain.proofs.Chain.{chain}
use Rattle.checks.specs.Plan.{payload_checked}
use Rattle.checks.proofs.plan.check_payload.Goals as goal

pub returns-then-is_wrong_data : goal.returns-then-is_wrong_data
unfolding payload_checked
returns-then-is_wrong_data c = search chain depth 20

pub returns-then-v : goal.returns-then-v
unfolding payload_checked
returns-then-v c = search chain depth 20

pub returns : goal.returns
unfolding payload_checked
returns c = search chain depth 20
