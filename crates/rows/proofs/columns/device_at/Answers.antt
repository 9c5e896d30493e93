use Rattle.rows.proofs.columns.Laws.{device_is}
use Rattle.rows.proofs.columns.device_at.Goals as goal

pub returns : goal.returns
returns c = search device_is
