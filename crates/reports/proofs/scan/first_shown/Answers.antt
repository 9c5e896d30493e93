use Rattle.std.proofs.Common.{rules, tests, refl, get_or, ◌-◌}
use Rattle.std.proofs.lemmas.Iterator.{YieldsList-from_range}
use Rattle.std.proofs.lemmas.Iterator.Search.{find_from_yields_List}
use Rattle.rows.specs.Table.{read_rows, empty_row}
use Rattle.reports.specs.Status.{is_shown}
use Rattle.reports.proofs.scan.Laws.{first_from}
use Rattle.reports.proofs.scan.first_shown.Goals as goal

pub returns : goal.returns
returns c =
    let l = read_rows c.args.rows.now in
    let n = c.count.result in
    let e = find_from_yields_List (λ i. is_shown c.args.flight (get_or l i empty_row)) _ _ c.find.result c.find.ensures.ran (YieldsList-from_range c.args.place n (n - c.args.place) (cc) refl) (λ x b q k. search (rules, tests)) in
    first_from c.args.flight l c.args.place n _ _ c.count.ensures refl e
