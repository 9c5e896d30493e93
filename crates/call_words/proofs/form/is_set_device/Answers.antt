use Rattle.call_words.specs.Form.{is_set_device}
use Rattle.call_words.proofs.form.is_set_device.Goals as goal

pub returns : goal.returns
unfolding is_set_device
returns c = cc
