use Rattle.bus.proofs.Tables.{put_mark_lem}
use Rattle.bus.proofs.devices.set_reconcile.Goals as goal

pub returns : goal.returns
returns c = search put_mark_lem
