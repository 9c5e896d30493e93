use Rattle.bus.proofs.Tables.{device_none, device_some}
use Rattle.bus.proofs.devices.read_device.Goals as goal

pub returns-then-bus-at-eq0 : goal.returns-then-bus-at-eq0
returns-then-bus-at-eq0 c = search device_none

pub returns : goal.returns
returns c = search device_some
