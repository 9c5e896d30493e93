use Rattle.polls.proofs.poll_reply.Laws.{stall_none, stall_other, stall_some}
use Rattle.polls.proofs.poll_reply.stall_of.Goals as goal

pub returns-in_default : goal.returns-in_default
returns-in_default c = search stall_none

pub returns-then-not-scoped : goal.returns-then-not-scoped
returns-then-not-scoped c = search stall_other

pub returns : goal.returns
returns c = search stall_some
