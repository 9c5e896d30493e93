use Rattle.rows.proofs.columns.Laws.{length_is}
use Rattle.rows.proofs.columns.requested_length_at.Goals as goal

pub returns : goal.returns
returns c = search length_is
