use Rattle.std.proofs.Common.{rules}
use Rattle.targets.proofs.wants.Laws.{after_stop, after_on}
use Rattle.targets.proofs.wants.after_first.Goals as goal

pub returns-in_err-device : goal.returns-in_err-device
returns-in_err-device c = search (rules, after_stop)

pub returns : goal.returns
returns c = search (rules, after_on)
