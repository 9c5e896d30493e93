use Rattle.rows.proofs.columns.Laws.{sequence_is}
use Rattle.rows.proofs.columns.sequence_at.Goals as goal

pub returns : goal.returns
returns c = search sequence_is
