use Rattle.bus.proofs.ports.Laws.{observe_full, observe_on}
use borrow.Author.Rules.{rules}
use Rattle.bus.proofs.ports.observe.Goals as goal

pub returns-in_err-next : goal.returns-in_err-next
returns-in_err-next c = search (observe_full, rules)

pub returns : goal.returns
returns c = observe_on _ _ _ _ _ c.read_port.ensures c.observe_row.ensures _ _ c.in_ok-next.was c.write_port.ensures
