use Rattle.rows.proofs.columns.Laws.{used_is}
use Rattle.rows.proofs.columns.used_at.Goals as goal

pub returns : goal.returns
returns c = search used_is
