use Rattle.rows.proofs.in_place.Laws.{timed_out_is}
use Rattle.rows.proofs.in_place.timed_out_record.Goals as goal

pub returns : goal.returns
returns c = timed_out_is _ _ _ _ _ c.pending.ensures c.to_flag-cancel.ensures c.to_flag-logical_cancel.ensures c.renewed.ensures
