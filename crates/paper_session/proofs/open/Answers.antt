use Rattle.paper_session.proofs.Laws.{open_to}
use Rattle.paper_session.proofs.open.Goals as goal

pub returns : goal.returns
returns c = open_to _ _ _ _ _ _ _ _ c.opened.ensures c.ready-session.ensures c.port.ensures c.set_port.ensures.step
