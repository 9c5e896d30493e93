use Rattle.std.proofs.Common.{rules, tests, eqb}
use Rattle.std.proofs.lemmas.Iterator.{YieldsList-from_slice}
use Rattle.std.proofs.lemmas.Iterator.Search.{position_from_yields_List}
use Rattle.scope.proofs.affected.Laws.{place_or_len}
use Rattle.scope.proofs.tokens.slot_of.Goals as goal

pub returns : goal.returns
returns c =
    let p = eqb c.args.token in
    let l = c.args.own.now in
    let e = position_from_yields_List p _ _ c.position-slot.result c.position-slot.ensures.ran (YieldsList-from_slice l cc) (λ x b q k. search (rules, tests)) in
    place_or_len p l _ _ e c.unwrap_or.ensures
