use Rattle.ledger.proofs.Found.{found_in_lem}
use Rattle.polls.proofs.poll_reply.Laws.{found_unfit, found_none, found_at, idle_place}
use Rattle.rows.specs.Store.{store_of}
use Rattle.polls.proofs.poll_reply.reply_found.Goals as goal

pub returns-then-not-memory_fits : goal.returns-then-not-memory_fits
unfolding store_of
returns-then-not-memory_fits c = search found_unfit

pub returns-in_default : goal.returns-in_default
unfolding store_of
returns-in_default c = search found_none

pub reply_at-requires : goal.reply_at-requires
reply_at-requires c = (search found_in_lem, search idle_place)

pub returns : goal.returns
unfolding store_of
returns c = search found_at
