use Rattle.bus.proofs.ports.Laws.{raise_full, raise_on}
use borrow.Author.Rules.{rules}
use Rattle.bus.proofs.ports.raise.Goals as goal

pub returns-in_err-generation : goal.returns-in_err-generation
returns-in_err-generation c = search (raise_full, rules)

pub returns : goal.returns
returns c = search (raise_on, rules)
