use Rattle.call_words.specs.Form.{is_open_call}
use Rattle.call_words.proofs.form.is_open_call.Goals as goal

pub returns : goal.returns
unfolding is_open_call
returns c = cc
