use Rattle.std.proofs.Common.{ltb, rules, tests}
use Rattle.std.proofs.lemmas.List.Sorted.{answers_always}
use Rattle.scope.proofs.tokens.Laws.{rises_adjacent}
use Rattle.scope.proofs.tokens.rises.Goals as goal

pub returns : goal.returns
returns c = rises_adjacent c.args.own.now _ (c.is_sorted_by.ensures.cases ltb (answers_always _ _ _ (λ f a r g h. search (rules, tests))))
