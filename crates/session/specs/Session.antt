-- The session's own definitions (document 01, "Session"). Assumes nothing.
use Rattle.std.specs.Prelude.{ℕ, ◌+◌, ◌-◌, ◌^◌, Bool, true, false, eqb, Option, Some, None}
use Rattle.chain.specs.Chain.{◌if◌else◌}
use Rattle.models.specs.declared.{ControllerState.ControllerState, RequestId.RequestId}
use Rattle.models.specs.declared.ControllerState.TheVariants.{Closed, AcquiredUnknown, Initialized, Closing, RecoveryRequired}
use Rattle.session.specs.declared.{InFlight.InFlight, RecoverableStall.RecoverableStall, Session.Session}

abbrev pub is_closed : ControllerState → Bool
is_closed Closed = true
is_closed AcquiredUnknown = false
is_closed Initialized = false
is_closed Closing = false
is_closed RecoveryRequired = false

abbrev pub is_acquired : ControllerState → Bool
is_acquired Closed = false
is_acquired AcquiredUnknown = true
is_acquired Initialized = false
is_acquired Closing = false
is_acquired RecoveryRequired = false

abbrev pub is_initialized : ControllerState → Bool
is_initialized Closed = false
is_initialized AcquiredUnknown = false
is_initialized Initialized = true
is_initialized Closing = false
is_initialized RecoveryRequired = false

abbrev pub may_recover : ControllerState → Bool
may_recover Closed = false
may_recover AcquiredUnknown = false
may_recover Initialized = true
may_recover Closing = false
may_recover RecoveryRequired = true

-- document 01's "errand open"
abbrev pub is_busy : InFlight → Bool
is_busy InFlight.Nothing = false
is_busy (InFlight.Submission id) = true
is_busy (InFlight.Poll id) = true
is_busy (InFlight.Recovery x) = true

-- past the 64-bit maximum the revision is none for ever
unfoldable pub raised : Option ℕ → Option ℕ
raised None = None
raised (Some n) = None if eqb n (2 ^ 64 - 1) else Some (n + 1)

abbrev pub with_controller : Session → ControllerState → Option ℕ → Session
with_controller s state revision = record {
  number = s.number;
  generation = s.generation;
  next_sequence = s.next_sequence;
  ports = s.ports;
  state = state;
  recovery_revision = revision;
  recoverable_stall = s.recoverable_stall;
  in_flight = s.in_flight;
  size = s.size;
}

abbrev pub with_flight : Session → InFlight → Session
with_flight s f = record {
  number = s.number;
  generation = s.generation;
  next_sequence = s.next_sequence;
  ports = s.ports;
  state = s.state;
  recovery_revision = s.recovery_revision;
  recoverable_stall = s.recoverable_stall;
  in_flight = f;
  size = s.size;
}

abbrev pub with_stall : Session → Option RecoverableStall → Session
with_stall s stall = record {
  number = s.number;
  generation = s.generation;
  next_sequence = s.next_sequence;
  ports = s.ports;
  state = s.state;
  recovery_revision = s.recovery_revision;
  recoverable_stall = stall;
  in_flight = s.in_flight;
  size = s.size;
}

-- a submission spends its sequence number when its errand opens
abbrev pub spent : Session → ℕ → RequestId → Session
spent s next id = record {
  number = s.number;
  generation = s.generation;
  next_sequence = next;
  ports = s.ports;
  state = s.state;
  recovery_revision = s.recovery_revision;
  recoverable_stall = s.recoverable_stall;
  in_flight = InFlight.Submission id;
  size = s.size;
}

-- a recovery mark, unless Closed, sets RecoveryRequired and raises the revision
unfoldable pub marked : Session → Session
marked s = s if is_closed s.state else with_controller s RecoveryRequired (raised s.recovery_revision)
