use Rattle.std.proofs.Common.{arith}
use Rattle.checks.proofs.packets.Laws.{sum_on, sum_over}
use Rattle.checks.proofs.packets.sums_to.Goals as goal

pub returns-then-next-length : goal.returns-then-next-length
returns-then-next-length c = search sum_over

pub loop-next-preserved : goal.loop-next-preserved
loop-next-preserved c = (omega arith, search sum_on)
