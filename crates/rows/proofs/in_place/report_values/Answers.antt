use Rattle.rows.proofs.in_place.Laws.{values_at}
use Rattle.rows.proofs.in_place.report_values.Goals as goal

pub returns : goal.returns
returns c = values_at _ _ _ _ _ _ c.requires c.column-sequence.ensures c.column-status.ensures c.record_at-at.ensures.0 c.values.ensures
