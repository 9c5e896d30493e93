use Rattle.std.proofs.Common.{rules}
use Rattle.rows.specs.Store.{store_of}
use Rattle.reports.proofs.scan.Laws.{scanned_in, from_unfit, from_on}
use Rattle.reports.proofs.scan.report_from.Goals as goal

pub returns-in_err-rows_sized : goal.returns-in_err-rows_sized
unfolding store_of
returns-in_err-rows_sized c = search (rules, from_unfit)

pub map-requires : goal.map-requires
map-requires c = search (rules, scanned_in)

pub returns : goal.returns
unfolding store_of
returns c = from_on _ _ _ _ c.rows_sized.ensures c.in_ok-rows_sized.was _ c.first_shown-shown.ensures _ _ c.map.ensures.cases (λ i r e q. search rules)
