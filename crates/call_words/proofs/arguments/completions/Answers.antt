use Rattle.call_words.proofs.Parts.{completions_is}
use Rattle.call_words.proofs.arguments.completions.Goals as goal

pub returns : goal.returns
returns c = search completions_is
