use Rattle.std.proofs.Common.{ltb, rules, tests, sym, ◌∙◌}
use Rattle.std.proofs.lemmas.Iterator.{YieldsList-from_slice}
use Rattle.std.proofs.lemmas.Iterator.Search.{any_from_yields_List}
use Rattle.call_words.proofs.form.Laws.{any_in-list}
use Rattle.call_words.proofs.form.any_above.Goals as goal

pub returns : goal.returns
returns c =
    let l = c.args.w.now in
    let e = any_from_yields_List (ltb c.args.limit) _ _ c.any.result c.any.ensures.ran (YieldsList-from_slice l cc) (λ x b q k. search (rules, tests)) in
    e ∙ sym (any_in-list (ltb c.args.limit) l)
