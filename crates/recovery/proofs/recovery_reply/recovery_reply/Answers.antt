use Rattle.recovery.proofs.Few.{few_told}
use Rattle.recovery.proofs.recovery_reply.Laws.{filled_told}
use Rattle.recovery.proofs.recovery_reply.recovery_reply.Goals as goal

pub fill-requires : goal.fill-requires
fill-requires c = search few_told

pub returns-clause-step : goal.returns-clause-step
returns-clause-step c =
    (filled_told _ _ _ _ _ c.fill.ensures (c.reply_by_places-replied.ensures.step, c.reply_by_places-replied.ensures.table)).0

pub returns-clause-table : goal.returns-clause-table
returns-clause-table c =
    (filled_told _ _ _ _ _ c.fill.ensures (c.reply_by_places-replied.ensures.step, c.reply_by_places-replied.ensures.table)).1
