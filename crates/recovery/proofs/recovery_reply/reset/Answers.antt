use Rattle.recovery.proofs.recovery_reply.Laws.{reset_abort, reset_on}
use Rattle.recovery.proofs.recovery_reply.reset.Goals as goal

pub returns-in-Abort : goal.returns-in-Abort
returns-in-Abort c = search reset_abort

pub returns-in-Reset : goal.returns-in-Reset
returns-in-Reset c = search reset_on
