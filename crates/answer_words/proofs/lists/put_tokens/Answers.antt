use Rattle.answer_words.proofs.lists.Laws.{tokens_short, tokens_put}
use Rattle.answer_words.proofs.lists.put_tokens.Goals as goal

pub returns-then-lists-n : goal.returns-then-lists-n
returns-then-lists-n c = search tokens_short

pub returns : goal.returns
returns c = search tokens_put
