use Rattle.std.proofs.Common.{rules, tests, refl, get_or, ◌-◌}
use Rattle.std.proofs.lemmas.Iterator.{YieldsList-from_range}
use Rattle.std.proofs.lemmas.Iterator.Search.{find_from_yields_List}
use Rattle.rows.specs.Table.{read_rows, empty_row}
use Rattle.ledger.specs.Search.{is_at}
use Rattle.ledger.proofs.search.Laws.{first_before}
use Rattle.ledger.proofs.search.scan.Goals as goal

pub returns : goal.returns
returns c =
    let l = read_rows c.args.rows.now in
    let p = is_at c.args.id in
    let e = find_from_yields_List (λ i. p (get_or l i empty_row)) _ _ c.find.result c.find.ensures.ran (YieldsList-from_range c.args.from c.args.to (c.args.to - c.args.from) (cc) refl) (λ x b q k. search (rules, tests)) in
    first_before p l c.args.from c.args.to _ _ refl e c.requires.1 c.requires.0
