use Rattle.call_words.specs.Form.{is_acquire}
use Rattle.call_words.proofs.form.is_acquire.Goals as goal

pub returns : goal.returns
unfolding is_acquire
returns c = cc
