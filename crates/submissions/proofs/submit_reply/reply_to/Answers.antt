use Rattle.submissions.proofs.submit_reply.Laws.{reply_token, reply_error}
use Rattle.submissions.proofs.submit_reply.reply_to.Goals as goal

pub returns-in-Ok : goal.returns-in-Ok
returns-in-Ok c = search reply_token

pub returns-in-Err : goal.returns-in-Err
returns-in-Err c = search reply_error
