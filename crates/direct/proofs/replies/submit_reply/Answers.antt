use Rattle.direct.proofs.replies.Laws.{submit_said_lem, says_token}
use Rattle.direct.proofs.replies.submit_reply.Goals as goal

pub returns-then-kind-eq0 : goal.returns-then-kind-eq0
returns-then-kind-eq0 c = search (submit_said_lem, says_token)
