use Rattle.chain.proofs.Chain.{chain}
use Rattle.session.specs.Start.{sized_of}
use Rattle.session.proofs.start.sized.Goals as goal

pub returns-then-not-fits : goal.returns-then-not-fits
unfolding sized_of
returns-then-not-fits c = search chain depth 20

pub returns : goal.returns
unfolding sized_of
returns c = search chain depth 20
