use Rattle.call_words.specs.Arguments.{read_readings}
use Rattle.call_words.proofs.arguments.readings.Goals as goal

pub returns : goal.returns
unfolding read_readings
returns c = cc
