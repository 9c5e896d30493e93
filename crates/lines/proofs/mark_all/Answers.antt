use Rattle.lines.proofs.Walk.{from_start}
use Rattle.lines.proofs.mark_all.Goals as goal

pub returns : goal.returns
returns c = search from_start
