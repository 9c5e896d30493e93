use Rattle.call_words.specs.Arguments.{read_snapshot}
use Rattle.call_words.proofs.arguments.snapshot.Goals as goal

pub returns : goal.returns
unfolding read_snapshot
returns c = cc
