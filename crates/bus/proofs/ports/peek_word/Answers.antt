use Rattle.bus.proofs.ports.Laws.{peek_full, peek_on}
use borrow.Author.Rules.{rules}
use Rattle.bus.proofs.ports.peek_word.Goals as goal

pub returns-in_err-row : goal.returns-in_err-row
returns-in_err-row c = search (peek_full, rules)

pub returns : goal.returns
returns c = search (peek_on, rules)
