use Rattle.paper_session.proofs.Laws.{opens_to}
use Rattle.paper_session.proofs.opened.Goals as goal

pub returns : goal.returns
returns c = search opens_to
