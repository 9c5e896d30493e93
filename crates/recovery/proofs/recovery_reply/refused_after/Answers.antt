use Rattle.recovery.proofs.recovery_reply.Laws.{refused_marked, refused_idle}
use Rattle.recovery.proofs.recovery_reply.refused_after.Goals as goal

pub returns-then-refusal-eq48 : goal.returns-then-refusal-eq48
returns-then-refusal-eq48 c = search refused_marked

pub returns : goal.returns
returns c = search refused_idle
