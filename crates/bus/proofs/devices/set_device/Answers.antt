use Rattle.bus.proofs.Tables.{put_device_lem}
use Rattle.bus.proofs.devices.set_device.Goals as goal

pub returns : goal.returns
returns c = search put_device_lem
