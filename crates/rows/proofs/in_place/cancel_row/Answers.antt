use Rattle.rows.proofs.in_place.Laws.{cancel_put}
use Rattle.rows.proofs.in_place.cancel_row.Goals as goal

pub returns : goal.returns
returns c = cancel_put _ _ _ (c.requires.0) (c.requires.1) c.record_at-at.ensures.0 _ _ c.copy.ensures c.cancelled_record-w.ensures
