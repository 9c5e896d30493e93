use Rattle.call_words.proofs.form.Laws.{reply_short, reply_tokens_lem, reply_completions, reply_is}
use Rattle.call_words.proofs.form.is_recovery_reply.Goals as goal

pub returns-then-w-lt10 : goal.returns-then-w-lt10
returns-then-w-lt10 c = search reply_short

pub returns-then-n-left : goal.returns-then-n-left
returns-then-n-left c = search reply_tokens_lem

pub returns-then-m-left : goal.returns-then-m-left
returns-then-m-left c = search reply_completions

pub returns : goal.returns
returns c = search reply_is
