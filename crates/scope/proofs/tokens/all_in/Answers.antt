use Rattle.std.proofs.Common.{rules, tests, ◌++◌}
use Rattle.std.proofs.lemmas.Iterator.{YieldsList-from_slice}
use Rattle.std.proofs.lemmas.Iterator.Search.{all_from_yields_List}
use Rattle.chain.specs.Lists.{is_among}
use Rattle.scope.proofs.tokens.Laws.{all_among}
use Rattle.scope.proofs.tokens.all_in.Goals as goal

pub returns : goal.returns
returns c =
    let l = c.args.tokens.now ++ c.args.aborted.now in
    let e = all_from_yields_List (λ t. is_among t l) _ _ c.all.result c.all.ensures.ran (YieldsList-from_slice c.args.own.now cc) (λ x b q k. search (rules, tests)) in
    all_among c.args.own.now l _ e
