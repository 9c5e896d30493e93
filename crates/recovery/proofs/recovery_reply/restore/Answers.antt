use Rattle.recovery.proofs.recovery_reply.Laws.{restored_none, restored_on, restored_off}
use Rattle.recovery.proofs.recovery_reply.restore.Goals as goal

pub returns-in_default : goal.returns-in_default
returns-in_default c = search restored_none

pub returns-then-matches : goal.returns-then-matches
returns-then-matches c = search restored_on

pub returns : goal.returns
returns c = search restored_off
