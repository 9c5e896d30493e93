use Rattle.call_words.proofs.Parts.{past_is}
use Rattle.call_words.proofs.arguments.past_completed.Goals as goal

pub returns : goal.returns
returns c = search past_is
