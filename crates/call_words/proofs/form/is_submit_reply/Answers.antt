use Rattle.call_words.specs.Form.{is_submit_reply}
use Rattle.call_words.proofs.form.is_submit_reply.Goals as goal

pub returns : goal.returns
unfolding is_submit_reply
returns c = cc
