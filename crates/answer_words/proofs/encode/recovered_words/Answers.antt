use Rattle.answer_words.proofs.encode.Laws.{recovered_exact}
use Rattle.answer_words.proofs.encode.recovered_words.Goals as goal

pub returns : goal.returns
returns c = search recovered_exact
