use Rattle.dispatch.proofs.read.Laws.{submit_asked}
use Rattle.dispatch.proofs.read.submit_wanted.Goals as goal

pub returns : goal.returns
returns c = submit_asked _ _ _ _ _ c.new_request-q.result c.submit_wants.ensures c.new_request-q.ensures.0 c.new_request-q.ensures.1
