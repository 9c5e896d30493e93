-- The backend's reply to a submission (document 01, "Added by design" and "Request row"). Assumes nothing.
use Rattle.std.specs.Prelude.{ℕ, not, Result, Ok, Err}
use Rattle.chain.specs.After.{After, after}
use Rattle.chain.specs.Chain.{◌if◌else◌}
use Rattle.models.specs.Refusals.{refusal_of, from_backend}
use Rattle.models.specs.declared.{OperationError.OperationError, Refusal.Refusal, RequestId.RequestId, RequestReport.RequestReport}
use Rattle.rows.specs.Store.{Store}
use Rattle.ledger.specs.Apply.{apply_of}
use Rattle.rules.specs.declared.{Change.Change}
use Rattle.session.specs.Lent.{store_fits}
use Rattle.session.specs.Session.{with_flight}
use Rattle.session.specs.declared.{Called.Called, InFlight.InFlight, Session.Session}
use Rattle.reports.specs.Answers.{effect}
use Rattle.session.specs.Called.{call_refused}

-- 2: no row has the id, and the operation stays in flight; else it ends with the row's report
unfoldable pub accepted_by : Result RequestReport Refusal → Session → Called RequestReport
accepted_by (Err r) s = call_refused s (refusal_of 2)
accepted_by (Ok row) s = record { answer = Ok row; session = with_flight s InFlight.Nothing }

-- 45 with the row empty again
unfoldable pub discarded_by : Result RequestReport Refusal → OperationError → Session → Called RequestReport
discarded_by (Err r) e s = call_refused s (refusal_of 2)
discarded_by (Ok row) e s = call_refused (with_flight (effect e s) InFlight.Nothing) (from_backend 45 e)

unfoldable pub submit_reply_by : Result ℕ OperationError → RequestId → Session → Store → After (Called RequestReport) Store
submit_reply_by (Ok token) id s store =
    let o = apply_of id (Change.Accept token) store in after (accepted_by o.result s) o.lent
submit_reply_by (Err e) id s store =
    let o = apply_of id Change.Discard store in after (discarded_by o.result e s) o.lent

-- 2 by its kind, then 3, then 2 where no row has the id
unfoldable pub submit_reply_in : InFlight → Result ℕ OperationError → Session → Store → After (Called RequestReport) Store
submit_reply_in InFlight.Nothing x s store = after (call_refused s (refusal_of 2)) store
submit_reply_in (InFlight.Poll id) x s store = after (call_refused s (refusal_of 2)) store
submit_reply_in (InFlight.Recovery y) x s store = after (call_refused s (refusal_of 2)) store
submit_reply_in (InFlight.Submission id) x s store =
    after (call_refused s (refusal_of 3)) store if not (store_fits s.size store) else
    submit_reply_by x id s store

unfoldable pub submit_reply_of : Result ℕ OperationError → Session → Store → After (Called RequestReport) Store
submit_reply_of x s store = submit_reply_in s.in_flight x s store
