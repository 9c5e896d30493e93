use Rattle.call_words.specs.Form.{is_plan}
use Rattle.call_words.proofs.form.is_plan.Goals as goal

pub returns : goal.returns
unfolding is_plan
returns c = cc
