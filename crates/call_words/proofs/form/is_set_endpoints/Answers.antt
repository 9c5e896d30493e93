use Rattle.call_words.specs.Form.{is_set_endpoints}
use Rattle.call_words.proofs.form.is_set_endpoints.Goals as goal

pub returns : goal.returns
unfolding is_set_endpoints
returns c = cc
