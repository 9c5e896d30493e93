use Rattle.submissions.proofs.Admission.{admitted_placed}
use Rattle.submissions.proofs.Said.{submit_said_lem}
use Rattle.submissions.proofs.submit.Laws.{submit_no, submit_on}
use Rattle.submissions.proofs.submit.submit_request_packets.Goals as goal

pub submit_target-requires : goal.submit_target-requires
submit_target-requires c = search (admitted_placed, c.admit-admitted.ensures, c.in-Ok.is)

pub returns-in-Err-clause-step : goal.returns-in-Err-clause-step
returns-in-Err-clause-step c = search submit_no

pub returns-in-Err-clause-table : goal.returns-in-Err-clause-table
returns-in-Err-clause-table c = (submit_said_lem _ _ _ _ _ _ (returns-in-Err-clause-step c)).1

pub returns-in-Ok-clause-step : goal.returns-in-Ok-clause-step
returns-in-Ok-clause-step c = search submit_on

pub returns-in-Ok-clause-table : goal.returns-in-Ok-clause-table
returns-in-Ok-clause-table c = (submit_said_lem _ _ _ _ _ _ (returns-in-Ok-clause-step c)).1
