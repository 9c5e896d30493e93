use Rattle.std.proofs.Common.{rules, tests, ◌≡◌, None, arith}
use Rattle.std.proofs.lemmas.Iterator.{YieldsList-from_range}
use Rattle.std.proofs.lemmas.Iterator.Consumers.{YieldsList-at, YieldsList-from_filter, fold_from_yields_List}
use Rattle.rows.specs.Table.{read_rows}
use Rattle.reports.proofs.status.Laws.{shown_after, earlier_in, folded_place, folded_inside, folded_best}
use Rattle.reports.proofs.status.best_place.Goals as goal
use Rattle.reports.proofs.status.best_place.Goals.{After-fold}

folded : (c : After-fold) → c.fold.result ≡ folded_place c.args.flight c.args.after (read_rows c.args.rows.now) None 0 c.count.result
folded c =
    let l = read_rows c.args.rows.now in
    let n = c.count.result in
    fold_from_yields_List _ (earlier_in c.args.flight c.args.after l) None c.fold.result c.fold.ensures.ran
    (YieldsList-from_filter _ (shown_after c.args.flight c.args.after l) (YieldsList-at c.filter.ensures.source (YieldsList-from_range 0 n n (cc) (omega arith)))
    c.filter.ensures.closure (λ x b q k. search (rules, tests)))
    (λ a x b q k. search rules)

pub returns-clause-inside : goal.returns-clause-inside
returns-clause-inside c = folded_inside c.args.flight c.args.after (read_rows c.args.rows.now) _ _ c.count.ensures (folded c)

pub returns-clause-best : goal.returns-clause-best
returns-clause-best c = folded_best c.args.flight c.args.after (read_rows c.args.rows.now) _ _ c.count.ensures (folded c)
