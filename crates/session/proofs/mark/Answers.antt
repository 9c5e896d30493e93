use Rattle.session.proofs.Revision.{mark_closed, mark_open}
use Rattle.session.proofs.mark.Goals as goal

pub returns-then-is_closed : goal.returns-then-is_closed
returns-then-is_closed c = search mark_closed

pub returns : goal.returns
returns c = search mark_open
