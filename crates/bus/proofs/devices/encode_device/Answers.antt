use Rattle.bus.proofs.Words.{device_encoded}
use borrow.Author.Rules.{rules}
use Rattle.bus.proofs.devices.encode_device.Goals as goal

pub returns : goal.returns
returns c = device_encoded _ _ (search rules) (search rules) (search rules) (search rules)
