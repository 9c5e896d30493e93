use Rattle.polls.proofs.poll_reply.Laws.{settled_no, settled_done}
use Rattle.polls.proofs.poll_reply.settle.Goals as goal

pub returns-in-Err : goal.returns-in-Err
returns-in-Err c = search settled_no

pub returns-in-Ok : goal.returns-in-Ok
returns-in-Ok c = search settled_done
