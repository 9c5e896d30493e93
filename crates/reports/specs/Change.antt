-- Cancel, its withdrawal, timeout and reclaim (document 01, the place ledger of its table). Assumes nothing.
use Rattle.std.specs.Prelude.{Result, Ok, Err}
use Rattle.chain.specs.After.{After, after}
use Rattle.models.specs.declared.{Refusal.Refusal, RequestId.RequestId, RequestReport.RequestReport}
use Rattle.rows.specs.Store.{Store}
use Rattle.ledger.specs.Apply.{apply_of}
use Rattle.rules.specs.declared.{Change.Change}
use Rattle.session.specs.Lent.{store_fits}
use Rattle.session.specs.Start.{guarded}
use Rattle.session.specs.declared.{Called.Called, Session.Session}
use Rattle.session.specs.Called.{call_refused}

unfoldable pub reported_by : Result RequestReport Refusal → Session → Called RequestReport
reported_by (Err r) s = call_refused s r
reported_by (Ok x) s = record { answer = Ok x; session = s }

-- 1, 3, then the ledger's 40, and 41, 42 or 59
unfoldable pub change_of : RequestId → Change → Session → Store → After (Called RequestReport) Store
change_of id c s store =
    guarded s (store_fits s.size store) (λ r. after (call_refused s r) store)
    (after (reported_by (apply_of id c store).result s) (apply_of id c store).lent)
