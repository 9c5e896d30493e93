use Rattle.std.proofs.Common.{rules, tests}
use Rattle.call_words.specs.Arguments.{read_opening}
use Rattle.call_words.proofs.arguments.opening.Goals as goal

pub returns : goal.returns
unfolding read_opening
returns c = search (rules, tests)
