use Rattle.rows.proofs.columns.Laws.{id_is}
use Rattle.rows.proofs.columns.id_at.Goals as goal

pub returns : goal.returns
returns c = search id_is
