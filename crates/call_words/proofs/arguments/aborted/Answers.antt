use Rattle.call_words.proofs.Parts.{aborted_is}
use Rattle.call_words.proofs.arguments.aborted.Goals as goal

pub returns : goal.returns
returns c = search aborted_is
