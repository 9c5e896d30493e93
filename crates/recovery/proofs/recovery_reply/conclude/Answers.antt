use Rattle.recovery.proofs.recovery_reply.Laws.{conclude_no, conclude_on}
use Rattle.recovery.proofs.recovery_reply.conclude.Goals as goal

pub returns-in-Err : goal.returns-in-Err
returns-in-Err c = search conclude_no

pub returns-in-Ok : goal.returns-in-Ok
returns-in-Ok c = search conclude_on
