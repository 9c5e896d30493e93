use Rattle.rows.proofs.Rows.{cleared}
use Rattle.rows.proofs.clear_rows.Goals as goal

pub returns : goal.returns
returns c = search cleared
