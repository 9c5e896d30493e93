use Rattle.chain.proofs.Chain.{chain}
use Rattle.checks.specs.Prepare.{data_checked}
use Rattle.checks.proofs.prepare.check_data.Goals as goal

pub returns-then-is_wrong_data : goal.returns-then-is_wrong_data
unfolding data_checked
returns-then-is_wrong_data c = search chain depth 20

pub returns : goal.returns
unfolding data_checked
returns c = search chain depth 20
