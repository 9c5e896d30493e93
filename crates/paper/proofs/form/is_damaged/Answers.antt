use Rattle.chain.proofs.Chain.{chain}
use Rattle.paper.specs.Form.{is_damaged}
use Rattle.paper.proofs.form.is_damaged.Goals as goal

pub returns-then-e-gt5 : goal.returns-then-e-gt5
unfolding is_damaged
returns-then-e-gt5 c = search chain depth 20

pub returns-then-e-eq0 : goal.returns-then-e-eq0
unfolding is_damaged
returns-then-e-eq0 c = search chain depth 20

pub returns-then-e-eq1 : goal.returns-then-e-eq1
unfolding is_damaged
returns-then-e-eq1 c = search chain depth 20

pub returns : goal.returns
unfolding is_damaged
returns c = search chain depth 20
