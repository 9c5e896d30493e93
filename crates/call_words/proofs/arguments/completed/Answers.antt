use Rattle.call_words.proofs.Parts.{completed_is}
use Rattle.call_words.proofs.arguments.completed.Goals as goal

pub returns : goal.returns
returns c = search completed_is
