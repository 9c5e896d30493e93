use mathlib.Core.Path.{refl}
use Rattle.rows.proofs.in_place.Laws.{complete_put}
use Rattle.rows.proofs.in_place.complete_row.Goals as goal

pub returns : goal.returns
returns c = complete_put _ _ _ (c.requires.0) (c.requires.1) refl _ _ _ _ _ c.field.ensures c.to_flag-logical_cancel.ensures c.end_row.ensures
