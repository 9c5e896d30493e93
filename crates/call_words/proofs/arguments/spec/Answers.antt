use Rattle.call_words.proofs.arguments.Laws.{spec_read}
use Rattle.call_words.proofs.arguments.spec.Goals as goal

pub returns : goal.returns
returns c = search spec_read
