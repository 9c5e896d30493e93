use Rattle.rows.proofs.in_place.Laws.{cancelled_is}
use Rattle.rows.proofs.in_place.cancelled_record.Goals as goal

pub returns : goal.returns
returns c = cancelled_is _ _ _ _ _ c.pending.ensures c.to_flag-late.ensures c.to_flag-timed_out.ensures c.renewed.ensures
