use Rattle.submissions.proofs.submit_reply.Laws.{discarded_done, discarded_none}
use Rattle.submissions.proofs.submit_reply.discarded.Goals as goal

pub returns-in_default : goal.returns-in_default
returns-in_default c = search discarded_none

pub returns : goal.returns
returns c = search discarded_done
