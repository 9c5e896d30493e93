use Rattle.bus.proofs.ports.Laws.{fresh_full, fresh_on}
use borrow.Author.Rules.{rules}
use Rattle.bus.proofs.ports.observe_word.Goals as goal

pub returns-in_err-row : goal.returns-in_err-row
returns-in_err-row c = search (fresh_full c.args.ports c.args.id _ _ _ _ c.observe.ensures _ c.in_err-row.was, rules)

pub returns : goal.returns
returns c = fresh_on _ _ _ _ _ _ c.observe.ensures _ _ c.in_ok-row.was c.validate_row.ensures
