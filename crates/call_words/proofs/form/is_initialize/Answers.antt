use Rattle.call_words.specs.Form.{is_initialize}
use Rattle.call_words.proofs.form.is_initialize.Goals as goal

pub returns : goal.returns
unfolding is_initialize
returns c = cc
