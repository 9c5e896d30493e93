use Rattle.rows.proofs.Rows.{field_is}
use Rattle.rows.proofs.columns.field.Goals as goal

pub returns : goal.returns
returns c = search field_is
