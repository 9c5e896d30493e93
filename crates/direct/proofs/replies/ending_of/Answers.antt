use Rattle.direct.proofs.replies.Laws.{ending_marked, ending_failed, ending_tested}
use Rattle.direct.proofs.replies.ending_of.Goals as goal

pub returns-then-not-completion : goal.returns-then-not-completion
returns-then-not-completion c = search ending_marked

pub returns-else-not-completion : goal.returns-else-not-completion
returns-else-not-completion c = search ending_failed

pub returns-in-None : goal.returns-in-None
returns-in-None c = search ending_tested
