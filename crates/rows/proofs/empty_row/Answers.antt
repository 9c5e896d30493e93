use Rattle.rows.proofs.Rows.{empty_is}
use mathlib.Core.Path.{◌∙◌}
use Rattle.rows.proofs.empty_row.Goals as goal

pub returns : goal.returns
returns c = c.decode.ensures ∙ empty_is
