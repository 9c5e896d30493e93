use Rattle.answer_words.proofs.encode.Laws.{report_exact}
use Rattle.answer_words.proofs.encode.report_words.Goals as goal

pub returns : goal.returns
returns c = search report_exact
