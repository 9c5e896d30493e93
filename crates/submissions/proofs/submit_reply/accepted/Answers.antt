use Rattle.submissions.proofs.submit_reply.Laws.{accepted_done, accepted_none}
use Rattle.submissions.proofs.submit_reply.accepted.Goals as goal

pub returns-in_default : goal.returns-in_default
returns-in_default c = search accepted_none

pub returns : goal.returns
returns c = search accepted_done
