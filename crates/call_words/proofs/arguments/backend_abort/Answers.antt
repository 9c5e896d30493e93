use Rattle.call_words.proofs.arguments.Laws.{abort_done, abort_failed}
use Rattle.call_words.proofs.arguments.backend_abort.Goals as goal

pub returns-then-word_at-eq0 : goal.returns-then-word_at-eq0
returns-then-word_at-eq0 c = search abort_done

pub returns : goal.returns
returns c = search abort_failed
