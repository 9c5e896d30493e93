use Rattle.models.proofs.values.Laws.{tagged, untagged}
use Rattle.call_words.proofs.arguments.Laws.{completion_read}
use Rattle.call_words.specs.Arguments.{read_poll_reply}
use Rattle.call_words.proofs.arguments.poll_reply.Goals as goal

pub returns-then-kind-eq0 : goal.returns-then-kind-eq0
unfolding read_poll_reply
returns-then-kind-eq0 c = search tagged

pub returns-then-kind-eq1 : goal.returns-then-kind-eq1
unfolding read_poll_reply
returns-then-kind-eq1 c = search (tagged, untagged)

pub returns : goal.returns
unfolding read_poll_reply
returns c = search (untagged, completion_read)
