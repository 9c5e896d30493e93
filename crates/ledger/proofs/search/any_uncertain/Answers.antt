use Rattle.std.proofs.Common.{rules, tests, get_or, arith}
use Rattle.std.proofs.lemmas.Iterator.{YieldsList-from_range}
use Rattle.std.proofs.lemmas.Iterator.Search.{any_from_yields_List}
use Rattle.rows.specs.Table.{read_rows, empty_row, is_uncertain}
use Rattle.ledger.proofs.search.Laws.{any_row}
use Rattle.ledger.proofs.search.any_uncertain.Goals as goal

pub returns : goal.returns
returns c =
    let l = read_rows c.args.rows.now in
    let n = c.count.result in
    let e = any_from_yields_List (λ i. is_uncertain (get_or l i empty_row)) _ _ c.any.result c.any.ensures.ran (YieldsList-from_range 0 n n (cc) (omega arith)) (λ x b q k. search (rules, tests)) in
    any_row is_uncertain l n _ c.count.ensures e
