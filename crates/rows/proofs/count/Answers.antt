use Rattle.rows.proofs.Rows.{length-read_rows}
use Rattle.rows.specs.Table.{row_count}
use mathlib.Core.Path.{sym}
use Rattle.rows.proofs.count.Goals as goal

pub returns : goal.returns
unfolding row_count
returns c = sym (length-read_rows _)
