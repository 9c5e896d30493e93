-- Opening, acquire, initialise and close (document 01, "Session"). Assumes nothing.
use Rattle.std.specs.Prelude.{option_map, ℕ, not, cond, Option, Some, None, Result, Ok, Err, ⊤}
use Rattle.chain.specs.Chain.{◌if◌else◌}
use Rattle.chain.specs.After.{After, after}
use Rattle.models.specs.Refusals.{refusal_of, from_backend}
use Rattle.models.specs.declared.ControllerState.TheVariants.{Closed, AcquiredUnknown, Initialized, RecoveryRequired}
use Rattle.models.specs.declared.{OperationError.OperationError, Ports.Ports, Refusal.Refusal}
use Rattle.rows.specs.Store.{Store, emptied}
use Rattle.bus.specs.Tables.{cleared}
use Rattle.session.specs.Session.{is_closed, is_acquired, is_busy, raised, with_controller, marked}
use Rattle.session.specs.Lent.{Lent, memory, lent, store_fits, lent_fits}
use Rattle.session.specs.Start.{guarded}
use Rattle.session.specs.declared.{Called.Called, InFlight.InFlight, Session.Session, lifecycle.AcquireFailure.AcquireFailure, lifecycle.Opening.Opening}
use Rattle.session.specs.Called.{call_refused, passed}

-- port ids carry the opening's session number
abbrev pub ports_of : Opening → Option Ports
ports_of o = option_map (λ c. record { session = o.session; count = c }) o.port_count

abbrev pub new_session : Opening → Session
new_session o = record {
  number = o.session;
  generation = 0;
  next_sequence = o.first_sequence;
  ports = ports_of o;
  state = Closed;
  recovery_revision = o.recovery_revision;
  recoverable_stall = None;
  in_flight = InFlight.Nothing;
  size = o.size;
}

-- 3: a size is wrong; else every row free and the bus as at opening, whatever they held
unfoldable pub open_of : Opening → Lent → After (Result Session Refusal) Lent
open_of o l =
    after (Err (refusal_of 3)) l if not (lent_fits o.size l) else
    after (Ok (new_session o)) (lent cleared (memory (emptied l.memory.store) l.memory.area))

-- a failed acquire stays Closed unless the reply says retained: then RecoveryRequired, revision raised
unfoldable pub acquired_by : Result ⊤ AcquireFailure → Session → Called ⊤
acquired_by (Ok tt) s = passed (with_controller s AcquiredUnknown s.recovery_revision)
acquired_by (Err f) s =
    call_refused (with_controller s RecoveryRequired (raised s.recovery_revision)) (from_backend 45 f.error) if f.retained else
    call_refused s (from_backend 45 f.error)

unfoldable pub acquire_of : Result ⊤ AcquireFailure → Session → Called ⊤
acquire_of reply s =
    call_refused s (refusal_of 1) if is_busy s.in_flight else
    call_refused s (refusal_of 50) if not (is_closed s.state) else
    acquired_by reply s

-- a failed initialise marks
unfoldable pub initialized_by : Option OperationError → Session → Called ⊤
initialized_by None s = passed (with_controller s Initialized s.recovery_revision)
initialized_by (Some e) s = call_refused (marked s) (from_backend 45 e)

unfoldable pub initialize_of : Option OperationError → Session → Called ⊤
initialize_of reply s =
    call_refused s (refusal_of 1) if is_busy s.in_flight else
    call_refused s (refusal_of 51) if not (is_acquired s.state) else
    initialized_by reply s

-- a new ledger at sequence 0; the revision and the stall stay
abbrev pub closed_session : Session → ℕ → Session
closed_session s fresh = record {
  number = fresh;
  generation = 0;
  next_sequence = 0;
  ports = s.ports;
  state = Closed;
  recovery_revision = s.recovery_revision;
  recoverable_stall = s.recoverable_stall;
  in_flight = InFlight.Nothing;
  size = s.size;
}

-- a backend error leaves a recovery mark
unfoldable pub closed_by : Option OperationError → ℕ → Session → Store → After (Called ⊤) Store
closed_by (Some e) fresh s store = after (call_refused (marked s) (from_backend 45 e)) store
closed_by None fresh s store = after (passed (closed_session s fresh)) (emptied store)

-- no fresh number is 52
unfoldable pub fresh_by : Option ℕ → Option OperationError → Session → Store → After (Called ⊤) Store
fresh_by None reply s store = after (call_refused s (refusal_of 52)) store
fresh_by (Some fresh) reply s store = closed_by reply fresh s store

-- 1, 3; Closed passes unchanged
unfoldable pub close_of : Option ℕ → Option OperationError → Session → Store → After (Called ⊤) Store
close_of fresh reply s store =
    guarded s (store_fits s.size store) (λ r. after (call_refused s r) store)
    (after (passed s) store if is_closed s.state else fresh_by fresh reply s store)
