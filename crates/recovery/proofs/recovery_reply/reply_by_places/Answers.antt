use Rattle.recovery.proofs.Said.{recovery_reply_said}
use Rattle.recovery.proofs.recovery_reply.Laws.{in_idle, in_submission, in_poll, in_recovery}
use Rattle.recovery.proofs.recovery_reply.reply_by_places.Goals as goal

pub returns-in-Nothing-clause-step : goal.returns-in-Nothing-clause-step
returns-in-Nothing-clause-step c = search in_idle

pub returns-in-Nothing-clause-table : goal.returns-in-Nothing-clause-table
returns-in-Nothing-clause-table c = (recovery_reply_said _ _ _ _ _ _ (returns-in-Nothing-clause-step c)).1

pub returns-in-Submission-clause-step : goal.returns-in-Submission-clause-step
returns-in-Submission-clause-step c = search in_submission

pub returns-in-Submission-clause-table : goal.returns-in-Submission-clause-table
returns-in-Submission-clause-table c = (recovery_reply_said _ _ _ _ _ _ (returns-in-Submission-clause-step c)).1

pub returns-in-Poll-clause-step : goal.returns-in-Poll-clause-step
returns-in-Poll-clause-step c = search in_poll

pub returns-in-Poll-clause-table : goal.returns-in-Poll-clause-table
returns-in-Poll-clause-table c = (recovery_reply_said _ _ _ _ _ _ (returns-in-Poll-clause-step c)).1

pub returns-in-Recovery-clause-step : goal.returns-in-Recovery-clause-step
returns-in-Recovery-clause-step c = search in_recovery

pub returns-in-Recovery-clause-table : goal.returns-in-Recovery-clause-table
returns-in-Recovery-clause-table c = (recovery_reply_said _ _ _ _ _ _ (returns-in-Recovery-clause-step c)).1
