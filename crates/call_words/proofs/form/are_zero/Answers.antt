use Rattle.std.proofs.Common.{◌+◌, rules, tests, arith}
use Rattle.std.proofs.lemmas.Iterator.{YieldsList-from_range}
use Rattle.std.proofs.lemmas.Iterator.Search.{all_from_yields_List}
use Rattle.call_words.specs.Parts.{is_zero}
use Rattle.call_words.proofs.form.Laws.{all_zero}
use Rattle.call_words.proofs.form.are_zero.Goals as goal

pub returns : goal.returns
returns c =
    let w = c.args.w.now in
    let at = c.args.at in
    let n = c.args.n in
    let e = all_from_yields_List (λ k. is_zero w (at + k)) _ _ c.all.result c.all.ensures.ran (YieldsList-from_range 0 n n (cc) (omega arith)) (λ x b q k. search (rules, tests)) in
    all_zero w at n _ e
