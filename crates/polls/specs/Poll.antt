-- Polling a request (document 01, "Request row", and the place poll, recovery start). Assumes nothing.
use Rattle.std.specs.Prelude.{ℕ, not, List, Option, Some, None, Ok, Err}
use Rattle.chain.specs.Chain.{◌if◌else◌}
use Rattle.chain.specs.Lists.{found_in}
use Rattle.models.specs.Refusals.{refusal_of}
use Rattle.models.specs.Requests.{is_pending}
use Rattle.models.specs.declared.{Refusal.Refusal, RequestId.RequestId}
use Rattle.rows.specs.Table.{row_in}
use Rattle.rows.specs.Store.{Store}
use Rattle.rows.specs.declared.{Row.Row}
use Rattle.rules.specs.Rules.{report_of}
use Rattle.ledger.specs.Search.{is_at}
use Rattle.session.specs.Session.{is_initialized, with_flight}
use Rattle.session.specs.Lent.{store_fits}
use Rattle.session.specs.Start.{guarded}
use Rattle.session.specs.declared.{Called.Called, InFlight.InFlight, Session.Session}
use Rattle.polls.specs.declared.{PollAnswer.PollAnswer}
use Rattle.session.specs.Called.{call_refused}

-- a row that isn't Pending is reported in any controller state; 28; else in flight, with its token
unfoldable pub poll_row : Row → RequestId → Session → Called PollAnswer
poll_row r id s =
    record { answer = Ok (PollAnswer.Report (report_of r)); session = s } if not (is_pending r.state) else
    call_refused s (refusal_of 28) if not (is_initialized s.state) else
    record { answer = Ok (PollAnswer.Asked r.token); session = with_flight s (InFlight.Poll id) }

-- 40
unfoldable pub poll_by : Option ℕ → RequestId → Session → List Row → Called PollAnswer
poll_by None id s rows = call_refused s (refusal_of 40)
poll_by (Some i) id s rows = poll_row (row_in rows i) id s

-- 1, 3
unfoldable pub poll_of : RequestId → Session → Store → Called PollAnswer
poll_of id s store =
    guarded s (store_fits s.size store) (call_refused s) (poll_by (found_in (is_at id) store.rows) id s store.rows)
