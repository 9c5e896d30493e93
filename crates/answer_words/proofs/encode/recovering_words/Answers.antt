use Rattle.answer_words.proofs.encode.Laws.{recovering_exact}
use Rattle.answer_words.proofs.encode.recovering_words.Goals as goal

pub returns : goal.returns
returns c = search recovering_exact
