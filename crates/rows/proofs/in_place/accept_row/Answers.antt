use Rattle.rows.proofs.in_place.Laws.{accept_put}
use Rattle.rows.proofs.in_place.accept_row.Goals as goal

pub returns : goal.returns
returns c = accept_put _ _ _ (c.requires.0) (c.requires.1) c.record_at-at.ensures.0 _ _ c.copy.ensures _ c.accepted_record-w.ensures
