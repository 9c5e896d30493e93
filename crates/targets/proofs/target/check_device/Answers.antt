use Rattle.std.proofs.Common.{rules}
use Rattle.targets.proofs.target.Laws.{device_refused, device_fresh}
use Rattle.targets.proofs.target.check_device.Goals as goal

pub returns-in_err-device : goal.returns-in_err-device
returns-in_err-device c = search (rules, device_refused)

pub returns : goal.returns
returns c = device_fresh _ _ _ _ _ _ c.known_device.ensures _ _ _ c.in_ok-device.was c.fresh_device.ensures
