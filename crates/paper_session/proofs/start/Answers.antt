use Rattle.paper_session.proofs.Laws.{started}
use Rattle.paper_session.proofs.start.Goals as goal

pub returns : goal.returns
returns c = search started
