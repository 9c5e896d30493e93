use Rattle.question_words.proofs.encode.Laws.{status_exact}
use Rattle.question_words.proofs.encode.status_words.Goals as goal

pub returns : goal.returns
returns c = search status_exact
