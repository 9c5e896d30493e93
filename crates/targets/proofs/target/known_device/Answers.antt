use Rattle.std.proofs.Common.{rules}
use Rattle.models.proofs.Ids.{same_device-ne}
use Rattle.targets.proofs.target.Laws.{known_marked, known_absent, known_other, known_early, known_ready}
use Rattle.targets.proofs.target.known_device.Goals as goal

pub returns-then-needs_reconcile : goal.returns-then-needs_reconcile
returns-then-needs_reconcile c = search (rules, known_marked)

pub returns-in_err-device : goal.returns-in_err-device
returns-in_err-device c = search (rules, known_absent)

pub returns-then-ne : goal.returns-then-ne
returns-then-ne c = known_other _ _ _ _ c.needs_reconcile.ensures c.if-needs_reconcile.false _ c.read_device.ensures _ c.refuse-2.ensures _ c.ok_or.ensures.value _ c.in_ok-device.was _ (search (rules, same_device-ne)) _ c.if-ne.true c.refuse-then-ne.ensures

pub returns-then-not-initialized : goal.returns-then-not-initialized
returns-then-not-initialized c = search (rules, known_early, same_device-ne)

pub returns : goal.returns
returns c = search (rules, known_ready, same_device-ne)
