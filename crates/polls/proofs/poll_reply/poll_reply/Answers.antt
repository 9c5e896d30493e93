use Rattle.polls.proofs.poll_reply.Laws.{reply_idle, reply_submission, reply_recovery, reply_on}
use Rattle.polls.proofs.Said.{poll_reply_said}
use Rattle.polls.proofs.poll_reply.poll_reply.Goals as goal

pub returns-in-Nothing-clause-step : goal.returns-in-Nothing-clause-step
returns-in-Nothing-clause-step c = search reply_idle

pub returns-in-Nothing-clause-table : goal.returns-in-Nothing-clause-table
returns-in-Nothing-clause-table c = (poll_reply_said _ _ _ _ _ _ (returns-in-Nothing-clause-step c)).1

pub returns-in-Submission-clause-step : goal.returns-in-Submission-clause-step
returns-in-Submission-clause-step c = search reply_submission

pub returns-in-Submission-clause-table : goal.returns-in-Submission-clause-table
returns-in-Submission-clause-table c = (poll_reply_said _ _ _ _ _ _ (returns-in-Submission-clause-step c)).1

pub returns-in-Poll-clause-step : goal.returns-in-Poll-clause-step
returns-in-Poll-clause-step c = search reply_on

pub returns-in-Poll-clause-table : goal.returns-in-Poll-clause-table
returns-in-Poll-clause-table c = (poll_reply_said _ _ _ _ _ _ (returns-in-Poll-clause-step c)).1

pub returns-in-Recovery-clause-step : goal.returns-in-Recovery-clause-step
returns-in-Recovery-clause-step c = search reply_recovery

pub returns-in-Recovery-clause-table : goal.returns-in-Recovery-clause-table
returns-in-Recovery-clause-table c = (poll_reply_said _ _ _ _ _ _ (returns-in-Recovery-clause-step c)).1
