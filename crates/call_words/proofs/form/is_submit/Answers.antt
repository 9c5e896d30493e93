use Rattle.call_words.specs.Form.{is_submit}
use Rattle.call_words.proofs.form.is_submit.Goals as goal

pub returns : goal.returns
unfolding is_submit
returns c = cc
