use Rattle.rows.proofs.columns.Laws.{endpoint_is}
use Rattle.rows.proofs.columns.endpoint_at.Goals as goal

pub returns : goal.returns
returns c = search endpoint_is
