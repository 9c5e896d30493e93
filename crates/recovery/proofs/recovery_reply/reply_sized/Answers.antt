use Rattle.rows.specs.Store.{store_of}
use Rattle.recovery.proofs.recovery_reply.Laws.{sized_3, sized_49, sized_on}
use Rattle.recovery.proofs.recovery_reply.reply_sized.Goals as goal

pub returns-then-not-memory_fits : goal.returns-then-not-memory_fits
unfolding store_of
returns-then-not-memory_fits c = search sized_3

pub returns-then-not-lists_agree : goal.returns-then-not-lists_agree
unfolding store_of
returns-then-not-lists_agree c = search sized_49

pub returns : goal.returns
unfolding store_of
returns c = search sized_on
