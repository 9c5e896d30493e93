use Rattle.bus.proofs.ports.Laws.{fresh_in, fresh_out}
use Rattle.bus.proofs.Said.{fresh_said}
use borrow.Author.Rules.{rules}
use Rattle.bus.proofs.ports.fresh_port.Goals as goal

pub returns-in_err-validate-clause-step : goal.returns-in_err-validate-clause-step
returns-in_err-validate-clause-step c = search (fresh_out, rules)

pub returns-in_err-validate-clause-table : goal.returns-in_err-validate-clause-table
returns-in_err-validate-clause-table c = (fresh_said _ _ _ _ _ _ (returns-in_err-validate-clause-step c)).1

pub returns-clause-step : goal.returns-clause-step
returns-clause-step c = fresh_in _ _ _ _ _ c.validate.ensures _ _ _ c.in_ok-validate.was c.observe_reading.ensures

pub returns-clause-table : goal.returns-clause-table
returns-clause-table c = (fresh_said _ _ _ _ _ _ (returns-clause-step c)).1
