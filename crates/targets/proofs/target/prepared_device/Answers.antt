use Rattle.std.proofs.Common.{rules}
use Rattle.targets.proofs.target.Laws.{prepared_refused, prepared_early, prepared_ready}
use Rattle.targets.proofs.target.prepared_device.Goals as goal

pub returns-in_err-port : goal.returns-in_err-port
returns-in_err-port c = search (rules, prepared_refused)

pub returns-then-not-is_prepared : goal.returns-then-not-is_prepared
returns-then-not-is_prepared c = search (rules, prepared_early)

pub returns : goal.returns
returns c = search (rules, prepared_ready)
