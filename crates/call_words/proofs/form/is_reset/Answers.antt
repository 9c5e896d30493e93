use Rattle.call_words.specs.Form.{is_reset}
use Rattle.call_words.proofs.form.is_reset.Goals as goal

pub returns : goal.returns
unfolding is_reset
returns c = cc
