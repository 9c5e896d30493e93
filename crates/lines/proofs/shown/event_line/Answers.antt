use Rattle.lines.proofs.shown.Laws.{event_told}
use Rattle.lines.proofs.shown.event_line.Goals as goal

pub returns : goal.returns
returns c = search event_told
