use Rattle.call_words.specs.Form.{is_set_port}
use Rattle.call_words.proofs.form.is_set_port.Goals as goal

pub returns : goal.returns
unfolding is_set_port
returns c = cc
