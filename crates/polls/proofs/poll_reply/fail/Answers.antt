use Rattle.polls.proofs.poll_reply.Laws.{failed_quiet, failed_marked}
use Rattle.polls.proofs.poll_reply.fail.Goals as goal

pub returns-then-completion : goal.returns-then-completion
returns-then-completion c = search failed_quiet

pub returns : goal.returns
returns c = search failed_marked
