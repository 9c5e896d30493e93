-- A recovery's start (document 01, the place poll, recovery start, and "Abort report"). Assumes nothing.
use Rattle.std.specs.Prelude.{ℕ, not, List, length, get_or, replicate, Option, Some, None, Ok, Err}
use Rattle.chain.specs.Chain.{◌if◌else◌}
use Rattle.chain.specs.Lists.{found_in, listed}
use Rattle.models.specs.Refusals.{refusal_of}
use Rattle.models.specs.Requests.{device_may_access}
use Rattle.models.specs.declared.{Refusal.Refusal, RequestId.RequestId}
use Rattle.rows.specs.Table.{empty_row}
use Rattle.rows.specs.Store.{Store}
use Rattle.rows.specs.declared.{Row.Row}
use Rattle.ledger.specs.Search.{is_at}
use Rattle.session.specs.Lent.{store_fits}
use Rattle.session.specs.Start.{guarded}
use Rattle.session.specs.Session.{may_recover, with_flight}
use Rattle.session.specs.declared.{InFlight.InFlight, Recovery.Recovery, RecoveryKind.RecoveryKind, Session.Session}
use Rattle.scope.specs.Affected.{affected_of, tokens_of}
use Rattle.recovery.specs.declared.{Begun.Begun}

abbrev pub begin_refused : Session → Refusal → Begun
begin_refused s r = record { answer = Err r; session = s; tokens = replicate 128 0; count = 0 }

abbrev pub recovery_of : RequestId → RecoveryKind → Row → Recovery
recovery_of id kind r = record { target = id; device = r.metadata.device; endpoint = r.metadata.endpoint; kind = kind }

-- the operation is in flight; the affected tokens by ascending id
unfoldable pub begun_as : Recovery → Session → List Row → Begun
begun_as x s rows = record {
  answer = Ok x;
  session = with_flight s (InFlight.Recovery x);
  tokens = listed 128 0 (tokens_of rows (affected_of x.device x.endpoint rows));
  count = length (affected_of x.device x.endpoint rows);
}

-- refused by 43 if the request is not held, by 44 if the controller is neither Initialized nor RecoveryRequired
unfoldable pub begin_row : RequestId → RecoveryKind → Row → Session → List Row → Begun
begin_row id kind r s rows =
    begin_refused s (refusal_of 43) if not (device_may_access r.state) else
    begin_refused s (refusal_of 44) if not (may_recover s.state) else
    begun_as (recovery_of id kind r) s rows

-- refused by 40 if no row has the id
unfoldable pub recover_by : Option ℕ → RequestId → RecoveryKind → Session → List Row → Begun
recover_by None id kind s rows = begin_refused s (refusal_of 40)
recover_by (Some i) id kind s rows = begin_row id kind (get_or rows i empty_row) s rows

-- refused by 1 while an operation is in flight, by 3 if the rows have not the session's size
unfoldable pub recover_of : RequestId → RecoveryKind → Session → Store → Begun
recover_of id kind s store =
    guarded s (store_fits s.size store) (begin_refused s) (recover_by (found_in (is_at id) store.rows) id kind s store.rows)
