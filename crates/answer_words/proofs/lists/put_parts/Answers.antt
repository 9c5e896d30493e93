use Rattle.answer_words.proofs.lists.Laws.{two_short, two_put}
use Rattle.answer_words.proofs.lists.put_parts.Goals as goal

pub returns-then-lists-second : goal.returns-then-lists-second
returns-then-lists-second c = search two_short

pub returns : goal.returns
returns c = search two_put
