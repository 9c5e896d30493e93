use Rattle.rows.proofs.in_place.Laws.{values_are}
use Rattle.rows.proofs.in_place.values.Goals as goal

pub returns : goal.returns
returns c = values_are _ _ _ _ c.renewed_transfer.ensures c.renewed_direction.ensures c.renewed_setup-p.ensures _ _ _ _ _ c.renewed_state-s.ensures c.renewed_flag.ensures c.renewed_flag-2.ensures
