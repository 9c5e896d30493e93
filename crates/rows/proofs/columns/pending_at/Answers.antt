use Rattle.rows.proofs.columns.Laws.{pending_is}
use Rattle.rows.proofs.columns.pending_at.Goals as goal

pub returns : goal.returns
returns c = search pending_is
