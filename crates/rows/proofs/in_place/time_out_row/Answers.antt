use Rattle.rows.proofs.in_place.Laws.{timed_out_put}
use Rattle.rows.proofs.in_place.time_out_row.Goals as goal

pub returns : goal.returns
returns c = timed_out_put _ _ _ (c.requires.0) (c.requires.1) c.record_at-at.ensures.0 _ _ c.copy.ensures c.timed_out_record-w.ensures
