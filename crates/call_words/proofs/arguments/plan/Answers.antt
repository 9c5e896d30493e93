use Rattle.call_words.specs.Arguments.{read_plan}
use Rattle.call_words.proofs.arguments.plan.Goals as goal

pub returns : goal.returns
unfolding read_plan
returns c = cc
