use borrow.Author.Rules.{rules}
use Rattle.scope.proofs.tokens.Laws.{mark_start}
use Rattle.scope.proofs.tokens.each_once.Goals as goal

pub loop-k-init : goal.loop-k-init
loop-k-init c = (search rules, (search rules, search rules, search mark_start))
