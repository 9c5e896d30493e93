use Rattle.direct.proofs.replies.Laws.{poll_refused_lem}
use Rattle.rows.specs.Store.{store_of}
use Rattle.direct.proofs.replies.poll_reply.Goals as goal

pub returns-in-Err : goal.returns-in-Err
unfolding store_of
returns-in-Err c = poll_refused_lem _ _ _ _ _ _ _ _ c.requires c.polled_row-placed.ensures c.in-Err.is c.refuse.ensures
