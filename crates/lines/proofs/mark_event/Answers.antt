use Rattle.lines.proofs.Walk.{event_walked_lem}
use Rattle.lines.proofs.mark_event.Goals as goal

pub returns : goal.returns
returns c = search event_walked_lem
