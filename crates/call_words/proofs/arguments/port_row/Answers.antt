use Rattle.call_words.specs.Arguments.{read_port_row}
use Rattle.call_words.proofs.arguments.port_row.Goals as goal

pub returns : goal.returns
unfolding read_port_row
returns c = cc
