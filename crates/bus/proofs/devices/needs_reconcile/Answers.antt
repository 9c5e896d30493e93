use Rattle.bus.proofs.Tables.{mark_is}
use Rattle.bus.proofs.devices.needs_reconcile.Goals as goal

pub returns : goal.returns
returns c = search mark_is
