use Rattle.std.proofs.Common.{rules}
use Rattle.targets.proofs.wants.Laws.{known_stop, known_on}
use Rattle.targets.proofs.wants.wanted_reading.Goals as goal

pub returns-in_err-device : goal.returns-in_err-device
returns-in_err-device c = search (rules, known_stop)

pub returns : goal.returns
returns c = search (rules, known_on)
