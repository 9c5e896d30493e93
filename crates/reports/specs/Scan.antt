-- Reports in the order of the rows. Assumes nothing.
use Rattle.std.specs.Prelude.{ℕ, ◌+◌, not, cond, List, get_or, drop, Option, Some, None, Result, Ok, Err}
use Rattle.chain.specs.Chain.{◌if◌else◌}
use Rattle.chain.specs.Lists.{find, any_in}
use Rattle.models.specs.Refusals.{refusal_of}
use Rattle.rows.specs.Table.{empty_row}
use Rattle.rows.specs.Store.{Store}
use Rattle.rows.specs.declared.{Row.Row}
use Rattle.rules.specs.Rules.{report_of}
use Rattle.session.specs.Lent.{store_fits}
use Rattle.session.specs.declared.{InFlight.InFlight, Session.Session}
use Rattle.reports.specs.Status.{is_shown}
use Rattle.reports.specs.declared.{PlacedReport.PlacedReport}
use Rattle.models.specs.declared.{Refusal.Refusal}

-- the first row at or after the place that has a report
unfoldable pub shown_from : InFlight → ℕ → List Row → Option ℕ
shown_from f place rows =
    let rest = drop place rows in
    cond (any_in (is_shown f) rest) (Some (place + find (is_shown f) rest)) None

unfoldable pub placed_by : Option ℕ → List Row → Result (Option PlacedReport) Refusal
placed_by None rows = (Ok None)
placed_by (Some i) rows = Ok (Some (record { place = i; report = (report_of (get_or rows i empty_row)) }))

-- 3; its report
unfoldable pub report_from : ℕ → Session → Store → Result (Option PlacedReport) Refusal
report_from place s store =
    Err (refusal_of 3) if not (store_fits s.size store) else
    placed_by (shown_from s.in_flight place store.rows) store.rows
