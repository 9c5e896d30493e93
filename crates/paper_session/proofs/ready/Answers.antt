use Rattle.paper_session.proofs.Laws.{readied_by}
use Rattle.paper_session.proofs.ready.Goals as goal

pub returns : goal.returns
returns c = search readied_by
