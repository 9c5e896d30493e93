use Rattle.direct.proofs.replies.Laws.{polled_found, polled_none, polled_other, polled_unfit}
use Rattle.rows.specs.Store.{store_of}
use Rattle.direct.proofs.replies.polled_row.Goals as goal

pub returns-then-not-is_polling : goal.returns-then-not-is_polling
unfolding store_of
returns-then-not-is_polling c = search polled_other

pub returns-then-not-memory_fits : goal.returns-then-not-memory_fits
unfolding store_of
returns-then-not-memory_fits c = search polled_unfit

pub returns-in_default : goal.returns-in_default
unfolding store_of
returns-in_default c = search polled_none

pub returns : goal.returns
unfolding store_of
returns c = search polled_found
