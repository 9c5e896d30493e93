use Rattle.polls.proofs.poll_reply.Laws.{invalid_is}
use Rattle.polls.proofs.poll_reply.invalid.Goals as goal

pub returns : goal.returns
returns c = search invalid_is
