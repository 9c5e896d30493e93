use Rattle.call_words.specs.Form.{is_close}
use Rattle.call_words.proofs.form.is_close.Goals as goal

pub returns : goal.returns
unfolding is_close
returns c = cc
