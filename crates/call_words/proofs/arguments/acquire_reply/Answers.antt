use Rattle.models.proofs.values.Laws.{tagged, untagged}
use Rattle.call_words.proofs.arguments.Laws.{failure_read}
use Rattle.call_words.specs.Arguments.{read_acquire_reply}
use Rattle.call_words.proofs.arguments.acquire_reply.Goals as goal

pub returns-then-word_at-eq0 : goal.returns-then-word_at-eq0
unfolding read_acquire_reply
returns-then-word_at-eq0 c = search tagged

pub returns : goal.returns
unfolding read_acquire_reply
returns c = search (untagged, failure_read)
