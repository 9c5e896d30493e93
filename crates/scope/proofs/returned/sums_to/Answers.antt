use native.Mathlib.Omega.{arith}
use Rattle.scope.proofs.returned.Laws.{sum_on, sum_over, sum_end}
use Rattle.scope.proofs.returned.sums_to.Goals as goal

pub returns-then-next-size : goal.returns-then-next-size
returns-then-next-size c = search sum_over

pub loop-k-preserved : goal.loop-k-preserved
loop-k-preserved c = (omega arith, search sum_on)

pub returns : goal.returns
returns c = search sum_end
