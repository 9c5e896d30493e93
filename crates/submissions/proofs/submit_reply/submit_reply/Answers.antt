use Rattle.rows.specs.Store.{store_of}
use Rattle.submissions.proofs.submit_reply.Laws.{reply_unfit, reply_idle, reply_on, reply_poll, reply_recovery}
use Rattle.submissions.proofs.Said.{submit_reply_said}
use Rattle.submissions.proofs.submit_reply.submit_reply.Goals as goal

pub returns-then-not-rows_fit-clause-step : goal.returns-then-not-rows_fit-clause-step
unfolding store_of
returns-then-not-rows_fit-clause-step c = search reply_unfit

pub returns-then-not-rows_fit-clause-table : goal.returns-then-not-rows_fit-clause-table
returns-then-not-rows_fit-clause-table c = (submit_reply_said _ _ _ _ _ (returns-then-not-rows_fit-clause-step c)).1

pub returns-in-Nothing-clause-step : goal.returns-in-Nothing-clause-step
returns-in-Nothing-clause-step c = search reply_idle

pub returns-in-Nothing-clause-table : goal.returns-in-Nothing-clause-table
returns-in-Nothing-clause-table c = (submit_reply_said _ _ _ _ _ (returns-in-Nothing-clause-step c)).1

pub returns-else-not-rows_fit-clause-step : goal.returns-else-not-rows_fit-clause-step
unfolding store_of
returns-else-not-rows_fit-clause-step c = search reply_on

pub returns-else-not-rows_fit-clause-table : goal.returns-else-not-rows_fit-clause-table
returns-else-not-rows_fit-clause-table c = (submit_reply_said _ _ _ _ _ (returns-else-not-rows_fit-clause-step c)).1

pub returns-in-Poll-clause-step : goal.returns-in-Poll-clause-step
returns-in-Poll-clause-step c = search reply_poll

pub returns-in-Poll-clause-table : goal.returns-in-Poll-clause-table
returns-in-Poll-clause-table c = (submit_reply_said _ _ _ _ _ (returns-in-Poll-clause-step c)).1

pub returns-in-Recovery-clause-step : goal.returns-in-Recovery-clause-step
returns-in-Recovery-clause-step c = search reply_recovery

pub returns-in-Recovery-clause-table : goal.returns-in-Recovery-clause-table
returns-in-Recovery-clause-table c = (submit_reply_said _ _ _ _ _ (returns-in-Recovery-clause-step c)).1
