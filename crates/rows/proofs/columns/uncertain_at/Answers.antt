use Rattle.rows.proofs.columns.Laws.{uncertain_is}
use Rattle.rows.proofs.columns.uncertain_at.Goals as goal

pub returns : goal.returns
returns c = search uncertain_is
