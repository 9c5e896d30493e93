-- The session as words. Every list of words says a session. Assumes nothing.
use Rattle.std.specs.Prelude.{ℕ, ◌+◌, ◌-◌, ◌%◌, ◌^◌, Bool, true, cond, not, ◌&&◌, List, [], ◌∷◌, get_or, length, eqb, Option, Some, None}
use Rattle.chain.specs.Chain.{◌if◌else◌}
use Rattle.words.specs.Words.{read_flag, read_option_u64, option_u64_words}
use Rattle.words.specs.declared.{OptionWords.OptionWords}
use Rattle.models.specs.Codes.{read_controller, controller_word}
use Rattle.models.specs.Values.{read_request_words, read_request_id, read_device_id}
use Rattle.models.specs.declared.{DeviceId.DeviceId, Ports.Ports, RequestId.RequestId}
use Rattle.session.specs.Said.{recovery_word}
use Rattle.session.specs.declared.{InFlight.InFlight, RecoverableStall.RecoverableStall, Recovery.Recovery, RecoveryKind.RecoveryKind, Session.Session}
use Rattle.session_words.specs.declared.{state.FlightWords.FlightWords, state.PortsWords.PortsWords, state.StallWords.StallWords}

-- how many words a session has
abbrev pub session_size : ℕ
session_size = 26

abbrev pub read_ports : ℕ → ℕ → ℕ → Option Ports
read_ports present session count = cond (eqb present 0) None (Some (record { session = session; count = count % 2 ^ 8 }))

abbrev pub ports_words : Option Ports → PortsWords
ports_words None = record { present = 0; session = 0; count = 0 }
ports_words (Some p) = record { present = 1; session = p.session; count = p.count }

abbrev pub read_stall : ℕ → ℕ → DeviceId → ℕ → Option RecoverableStall
read_stall present revision device endpoint =
    cond (eqb present 0) None (Some (record { revision = revision; device = device; endpoint = endpoint % 2 ^ 8 }))

abbrev pub stall_words : Option RecoverableStall → StallWords
stall_words None = record { present = 0; revision = 0; session = 0; generation = 0; slot = 0; endpoint = 0 }
stall_words (Some x) = record {
  present = 1;
  revision = x.revision;
  session = x.device.session;
  generation = x.device.generation;
  slot = x.device.slot;
  endpoint = x.endpoint;
}

-- 0 abort, 1 reset, any other a reset that preserves the data toggle
abbrev pub read_kind : ℕ → RecoveryKind
read_kind w = cond (eqb w 0) RecoveryKind.Abort (RecoveryKind.Reset (read_flag (w - 1)))

-- tags: 0 nothing, 1 a submission, 2 a poll, any other a recovery
abbrev pub read_flight : ℕ → RequestId → DeviceId → ℕ → ℕ → InFlight
read_flight tag id device endpoint k =
    cond (eqb tag 0) InFlight.Nothing
    (cond (eqb tag 1) (InFlight.Submission id)
    (cond (eqb tag 2) (InFlight.Poll id)
    (InFlight.Recovery (record { target = id; device = device; endpoint = endpoint % 2 ^ 8; kind = read_kind k }))))

abbrev pub id_flight : ℕ → RequestId → FlightWords
id_flight tag id = record {
  tag = tag;
  session = id.session;
  generation = id.generation;
  sequence = id.sequence;
  device_session = 0;
  device_generation = 0;
  slot = 0;
  endpoint = 0;
  kind = 0;
}

abbrev pub recovery_flight : Recovery → FlightWords
recovery_flight x = record {
  tag = 3;
  session = x.target.session;
  generation = x.target.generation;
  sequence = x.target.sequence;
  device_session = x.device.session;
  device_generation = x.device.generation;
  slot = x.device.slot;
  endpoint = x.endpoint;
  kind = recovery_word x.kind;
}

abbrev pub flight_words : InFlight → FlightWords
flight_words InFlight.Nothing = id_flight 0 (read_request_words 0 0 0)
flight_words (InFlight.Submission id) = id_flight 1 id
flight_words (InFlight.Poll id) = id_flight 2 id
flight_words (InFlight.Recovery x) = recovery_flight x

-- the ports, the revision, the stall and what is in flight of a session's words
abbrev pub ports_in : List ℕ → Option Ports
ports_in w = read_ports (get_or w 3 0) (get_or w 4 0) (get_or w 5 0)

abbrev pub revision_in : List ℕ → Option ℕ
revision_in w = read_option_u64 (get_or w 7 0) (get_or w 8 0)

abbrev pub stall_in : List ℕ → Option RecoverableStall
stall_in w = read_stall (get_or w 9 0) (get_or w 10 0) (read_device_id w 11) (get_or w 14 0)

abbrev pub flight_in : List ℕ → InFlight
flight_in w = read_flight (get_or w 15 0) (read_request_id w 16) (read_device_id w 19) (get_or w 22 0) (get_or w 23 0)

unfoldable pub read_session : List ℕ → Session
read_session w = record {
  number = get_or w 0 0;
  generation = get_or w 1 0;
  next_sequence = get_or w 2 0;
  ports = ports_in w;
  state = read_controller (get_or w 6 0);
  recovery_revision = revision_in w;
  recoverable_stall = stall_in w;
  in_flight = flight_in w;
  size = record { row_count = get_or w 24 0; row_bytes = get_or w 25 0 };
}

abbrev pub ports_tail : PortsWords → List ℕ → List ℕ
ports_tail p rest = p.present ∷ p.session ∷ p.count ∷ rest

abbrev pub revision_tail : OptionWords → List ℕ → List ℕ
revision_tail r rest = r.present ∷ r.value ∷ rest

abbrev pub stall_tail : StallWords → List ℕ → List ℕ
stall_tail x rest = x.present ∷ x.revision ∷ x.session ∷ x.generation ∷ x.slot ∷ x.endpoint ∷ rest

abbrev pub flight_tail : FlightWords → List ℕ → List ℕ
flight_tail f rest =
    f.tag ∷ f.session ∷ f.generation ∷ f.sequence ∷ f.device_session ∷ f.device_generation ∷ f.slot ∷ f.endpoint ∷ f.kind ∷ rest

unfoldable pub session_words : Session → List ℕ
session_words s =
    s.number ∷ s.generation ∷ s.next_sequence
    ∷ ports_tail (ports_words s.ports)
    (controller_word s.state
    ∷ revision_tail (option_u64_words s.recovery_revision)
    (stall_tail (stall_words s.recoverable_stall)
    (flight_tail (flight_words s.in_flight)
    (s.size.row_count ∷ s.size.row_bytes ∷ []))))

-- whether the words p stand in w from word `at` on
abbrev pub stands_at : List ℕ → ℕ → List ℕ → Bool
stands_at w at [] = true
stands_at w at (x ∷ p) = eqb (get_or w at 0) x && stands_at w (at + 1) p

-- a session's own words: they are those of the session that they say
unfoldable pub is_session : List ℕ → Bool
is_session w = eqb (length w) session_size && stands_at w 0 (session_words (read_session w))

-- a session kept in words, as a store is
pub record Kept : Type 0 where
  pub words : List ℕ
  pub session : Session

unfoldable pub kept_of : List ℕ → Kept
kept_of w = record { words = w; session = read_session w }

-- the session written to the words l, which stay where they are not as many as a session has
unfoldable pub kept_as : List ℕ → Session → Kept
kept_as l s = kept_of l if not (eqb (length l) session_size) else record { words = session_words s; session = s }
