use Rattle.answer_words.proofs.encode.Laws.{refusal_exact}
use Rattle.answer_words.proofs.encode.refusal_words.Goals as goal

pub returns : goal.returns
returns c = search refusal_exact
