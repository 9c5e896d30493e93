use Rattle.recovery.proofs.recovery_reply.Laws.{after_marked, after_on}
use Rattle.recovery.proofs.recovery_reply.session_after.Goals as goal

pub returns-then-not-is_whole : goal.returns-then-not-is_whole
returns-then-not-is_whole c = search after_marked

pub returns : goal.returns
returns c = search after_on
