use Rattle.answer_words.proofs.encode.Laws.{plan_exact}
use Rattle.answer_words.proofs.encode.plan_words.Goals as goal

pub returns : goal.returns
returns c = search plan_exact
