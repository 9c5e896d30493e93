use Rattle.std.proofs.Common.{rules}
use Rattle.targets.proofs.wants.Laws.{port_stop, port_on}
use Rattle.targets.proofs.wants.device_wanted.Goals as goal

pub returns-in_err-ok : goal.returns-in_err-ok
returns-in_err-ok c = search (rules, port_stop)

pub returns : goal.returns
returns c = search (rules, port_on)
