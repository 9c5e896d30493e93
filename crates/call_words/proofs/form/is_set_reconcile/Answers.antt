use Rattle.call_words.specs.Form.{is_set_reconcile}
use Rattle.call_words.proofs.form.is_set_reconcile.Goals as goal

pub returns : goal.returns
unfolding is_set_reconcile
returns c = cc
