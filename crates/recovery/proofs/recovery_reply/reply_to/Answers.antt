use Rattle.recovery.proofs.recovery_reply.Laws.{reply_45}
use Rattle.recovery.proofs.recovery_reply.reply_to.Goals as goal

pub returns-in-Err : goal.returns-in-Err
returns-in-Err c = search reply_45
