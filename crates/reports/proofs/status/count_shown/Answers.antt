use Rattle.std.proofs.Common.{arith}
use Rattle.reports.proofs.status.Laws.{byte_most, shown_more}
use Rattle.reports.proofs.status.count_shown.Goals as goal

pub loop-i-preserved : goal.loop-i-preserved
loop-i-preserved c = (omega (arith, byte_most), search shown_more)
