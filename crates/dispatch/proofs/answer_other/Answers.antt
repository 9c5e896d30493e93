use Rattle.dispatch.proofs.requests.Reply.{submit_reply_ran, poll_reply_ran}
use Rattle.dispatch.proofs.answer_other.Goals as goal

pub returns-in-10 : goal.returns-in-10
returns-in-10 c = search submit_reply_ran

pub returns-in-12 : goal.returns-in-12
returns-in-12 c = search poll_reply_ran
