use Rattle.bus.proofs.ports.Laws.{number_none, number_in, number_out}
use borrow.Author.Rules.{rules}
use Rattle.bus.proofs.ports.check_number.Goals as goal

pub returns-in_err-p : goal.returns-in_err-p
returns-in_err-p c = search (number_none, rules)

pub returns-then-number-p : goal.returns-then-number-p
returns-then-number-p c = search (number_out, rules)

pub returns : goal.returns
returns c = search (number_in, rules)
