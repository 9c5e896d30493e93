use Rattle.answer_words.proofs.encode.Laws.{begun_exact}
use Rattle.answer_words.proofs.encode.begun_words.Goals as goal

pub returns : goal.returns
returns c = search begun_exact
