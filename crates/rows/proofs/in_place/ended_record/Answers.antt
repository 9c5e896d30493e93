use Rattle.rows.proofs.in_place.Laws.{ended_is}
use Rattle.rows.proofs.in_place.ended_record.Goals as goal

pub returns : goal.returns
returns c = ended_is _ _ _ _ _ c.to_flag-logical_cancel.ensures c.to_flag-timed_out.ensures c.renewed.ensures
