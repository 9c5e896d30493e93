use Rattle.rows.proofs.columns.Laws.{held_is}
use Rattle.rows.proofs.columns.held_at.Goals as goal

pub returns : goal.returns
returns c = search held_is
