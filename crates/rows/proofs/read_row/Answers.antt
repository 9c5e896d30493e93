use Rattle.rows.proofs.Rows.{row_at_lem}
use mathlib.Core.Path.{◌∙◌}
use Rattle.rows.proofs.read_row.Goals as goal

pub returns : goal.returns
returns c = c.decode.ensures ∙ search row_at_lem
