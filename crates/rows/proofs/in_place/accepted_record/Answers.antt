use Rattle.rows.proofs.in_place.Laws.{accepted_is}
use Rattle.rows.proofs.in_place.accepted_record.Goals as goal

pub returns : goal.returns
returns c = accepted_is _ _ _ _ _ _ _ _ c.pending.ensures c.to_flag-cancel.ensures c.to_flag-late.ensures c.to_flag-logical_cancel.ensures c.to_flag-timed_out.ensures c.renewed.ensures
