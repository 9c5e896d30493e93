use Rattle.bus.proofs.ports.Laws.{set_in, set_out}
use Rattle.bus.proofs.Said.{set_port_said}
use borrow.Author.Rules.{rules}
use Rattle.bus.proofs.ports.set_port.Goals as goal

pub returns-in_err-check_number-clause-step : goal.returns-in_err-check_number-clause-step
returns-in_err-check_number-clause-step c = search (set_out, rules)

pub returns-in_err-check_number-clause-table : goal.returns-in_err-check_number-clause-table
returns-in_err-check_number-clause-table c = (set_port_said _ _ _ _ _ _ (returns-in_err-check_number-clause-step c)).1

pub returns-clause-step : goal.returns-clause-step
returns-clause-step c = search (set_in, rules)

pub returns-clause-table : goal.returns-clause-table
returns-clause-table c = (set_port_said _ _ _ _ _ _ (returns-clause-step c)).1
