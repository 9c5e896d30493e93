use Rattle.chain.proofs.Chain.{chain}
use Rattle.checks.specs.Prepare.{spec_checked}
use Rattle.checks.proofs.prepare.check_spec.Goals as goal

pub returns-then-v-gt-LONGEST : goal.returns-then-v-gt-LONGEST
unfolding spec_checked
returns-then-v-gt-LONGEST c = search chain depth 20

pub returns-then-v : goal.returns-then-v
unfolding spec_checked
returns-then-v c = search chain depth 20

pub returns-then-v-ne0 : goal.returns-then-v-ne0
unfolding spec_checked
returns-then-v-ne0 c = search chain depth 20

pub returns-then-v-2 : goal.returns-then-v-2
unfolding spec_checked
returns-then-v-2 c = search chain depth 20

pub returns : goal.returns
unfolding spec_checked
returns c = search chain depth 20
