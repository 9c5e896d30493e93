use Rattle.chain.proofs.Chain.{chain}
use Rattle.session.specs.Start.{guarded, sized_of, ready_of}
use Rattle.session.proofs.start.ready.Goals as goal

pub returns-then-is_busy : goal.returns-then-is_busy
unfolding ready_of guarded
returns-then-is_busy c = search chain depth 20

pub returns : goal.returns
unfolding ready_of guarded sized_of
returns c = search chain depth 20
