use Rattle.question_words.proofs.encode.Laws.{placed_exact}
use Rattle.question_words.proofs.encode.placed_words.Goals as goal

pub returns : goal.returns
returns c = search placed_exact
