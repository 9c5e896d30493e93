-- Document 01's starred examples: what the definitions answer, whole, and what the document says, in its order. Rows have 65,536 bytes where
-- no row is named. Assumes nothing.
use Rattle.std.specs.Prelude.{ℕ, ◌*◌, Bool, true, false, List, [], ◌∷◌, map, ◌≡◌, length, replicate, Option, Some, None, Result, Ok, Err, ⊤}
use Rattle.chain.specs.After.{After}
use Rattle.models.specs.declared.{BackendCompletion.BackendCompletion, ControllerState.ControllerState, DataStage.DataStage, DeviceId.DeviceId, Direction.Direction, ErrorCategory.ErrorCategory, Refusal.Refusal, RequestId.RequestId, RequestMetadata.RequestMetadata, RequestState.RequestState, SetupPacket.SetupPacket, TransferType.TransferType}
use Rattle.models.specs.declared.ControllerState.TheVariants.{Initialized, RecoveryRequired}
use Rattle.models.specs.declared.ControlProfile.TheVariants.{Compliant}
use Rattle.models.specs.declared.Direction.TheVariants.{In, Out}
use Rattle.models.specs.declared.RequestState.TheVariants.{Pending, Completed, Failed, Aborted}
use Rattle.models.specs.declared.TransferType.TheVariants.{Control, Bulk, Isochronous}
use Rattle.standards.specs.Setup.{setup_bytes}
use Rattle.rows.specs.Table.{row_words}
use Rattle.rows.specs.declared.{Row.Row}
use Rattle.checks.specs.Packets.{packets_checked}
use Rattle.checks.specs.Plan.{planned}
use Rattle.checks.specs.Prepare.{prepared}
use Rattle.session.specs.Lent.{Memory, memory}
use Rattle.session.specs.declared.{InFlight.InFlight, RecoveryKind.RecoveryKind, Session.Session}
use Rattle.polls.specs.PollReply.{poll_reply_of}
use Rattle.recovery.specs.RecoveryReply.{reply_lists, recovery_reply_of}
use Rattle.recovery.specs.declared.{AbortReport.AbortReport, Replied.Replied}
use Rattle.checks.specs.declared.{plan.ValidatedControlPlan.ValidatedControlPlan}

-- what an example is about
pub data Subject : Type 0 where
  Prepares : Result RequestMetadata Refusal → Subject
  Packs : Result ⊤ Refusal → Subject
  Writes : List ℕ → Subject
  Plans : Result ValidatedControlPlan Refusal → Subject
  -- the states of the rows after a reply
  Leaves : List RequestState → Subject
  -- a recovery's answer, the controller's state and the states of the rows after its reply
  Recovers : Result AbortReport Refusal → ControllerState → List RequestState → Subject

pub record Example : Type 0 where
  pub computed : Subject
  pub expected : Subject

abbrev gives : Subject → Subject → Example
gives a b = record { computed = a; expected = b }

-- a refusal with its category, whose message is its number
abbrev refusal : ErrorCategory → ℕ → Option ℕ → Refusal
refusal c n code = record { number = n; error = record { category = c; message = n; os_code = None; completion_code = code } }

abbrev invalid : ℕ → Refusal
invalid n = refusal ErrorCategory.Validation n None

abbrev unsupported : ℕ → Refusal
unsupported n = refusal ErrorCategory.Unsupported n None

abbrev device : DeviceId
device = record { session = 1; generation = 0; slot = 1 }

-- n bytes
abbrev metadata : ℕ → TransferType → Direction → Option SetupPacket → ℕ → RequestMetadata
metadata endpoint t d s n = record { device = device; endpoint = endpoint; transfer_type = t; direction = d; requested_length = n; setup = s }

-- ---- prepare

-- request k of the type t, with n bytes
abbrev packet : ℕ → ℕ → ℕ → SetupPacket
packet t k n = record { request_type = t; request = k; value = 0; index = 0; length = n }

-- n bytes from endpoint 81h
abbrev bulk : ℕ → Subject
bulk n =
    Prepares (prepared (record { device = device; endpoint = 0x81; transfer_type = Bulk; direction = In; length = n; setup = None }) 0 65536)

-- n bytes by the packet p, with no data
abbrev control : Direction → ℕ → SetupPacket → Subject
control d n p =
    Prepares (prepared (record { device = device; endpoint = 0; transfer_type = Control; direction = d; length = n; setup = Some p }) 0 65536)

abbrev packets : List ℕ → ℕ → Subject
packets l n = Packs (packets_checked true l Isochronous n)

-- ---- plans: Compliant, status IN, with no data

abbrev compliant : SetupPacket → Option DataStage → Subject
compliant p s =
    Plans (planned (record { device = device; profile = Compliant; setup = p; data_stage = s; status_direction = Some In }) 0 65536)

-- the plan of the packet p without a stage
abbrev plan_ok : SetupPacket → Subject
plan_ok p = Plans (Ok (record {
  metadata = metadata 0 Control In (Some p) 0;
  has_data = false;
  data_direction = In;
  status_direction = In;
  profile = Compliant;
}))

-- ---- replies, in an Initialized session of as many rows of 8 bytes as are named

abbrev session : InFlight → ℕ → Session
session f rows = record {
  number = 1;
  generation = 0;
  next_sequence = 9;
  ports = None;
  state = Initialized;
  recovery_revision = Some 0;
  recoverable_stall = None;
  in_flight = f;
  size = record { row_count = rows; row_bytes = 8 };
}

abbrev stored : List Row → Memory
stored rows = memory (record { words = replicate (length rows * row_words) 0; rows = rows }) (replicate (length rows * 8) 0)

abbrev id : ℕ → RequestId
id n = record { session = 1; generation = 0; sequence = n }

abbrev pending : RequestState
pending = Pending false false

-- the request n, of 8 bytes, with its token
abbrev row : ℕ → ℕ → Row
row n token = record {
  used = true;
  id = id n;
  metadata = metadata 0x81 Bulk In None 8;
  token = token;
  logical_cancel = false;
  timed_out = false;
  state = pending;
}

abbrev states : Memory → List RequestState
states m = map (λ (r : Row). r.state) m.store.rows

-- a poll's reply, quiescent, with the code k and these bytes
abbrev completion : ℕ → List ℕ → BackendCompletion
completion k bytes =
    record { actual_length = Some (length bytes); completion_code = Some k; has_data = true; error = None; quiescent = true }

abbrev polled : ℕ → List ℕ → Subject
polled k bytes =
    Leaves (states (poll_reply_of (Ok (Some (completion k bytes))) bytes (session (InFlight.Poll (id 1)) 1) (stored (row 1 7 ∷ []))).lent)

-- a recovery's reply that aborted these tokens; the row of the lower id stands second
abbrev recovering : InFlight
recovering = InFlight.Recovery (record { target = id 1; device = device; endpoint = 0x81; kind = RecoveryKind.Abort })

abbrev recovered : After Replied Memory → Subject
recovered o = Recovers o.result.answer o.result.session.state (states o.lent)

abbrev aborted : Bool → List ℕ → Subject
aborted ready tokens =
    recovered
    (recovery_reply_of (Ok (record { restart_ready = ready; error = None })) (reply_lists [] [] tokens []) (session recovering 2)
    (stored (row 2 9 ∷ row 1 7 ∷ [])))

-- its report where one request was aborted and the endpoint is not ready
abbrev one_aborted : Result AbortReport Refusal
one_aborted =
    Ok (record { target = id 1; device = device; endpoint = 0x81; completed = 0; aborted = 1; restart_ready = false; error = None })

abbrev pub starred : List Example
starred =
    -- bulk 65,536 passes; 65,537 is 6. Control 65,535 passes; 65,536 is 9
    gives (bulk 65536) (Prepares (Ok (metadata 0x81 Bulk In None 65536)))
    ∷ gives (bulk 65537) (Prepares (Err (unsupported 6)))
    ∷ gives (control In 65535 (packet 0x80 6 65535)) (Prepares (Ok (metadata 0 Control In (Some (packet 0x80 6 65535)) 65535)))
    ∷ gives (control In 65536 (packet 0x80 6 65535)) (Prepares (Err (invalid 9)))
    -- 128 packets of 512 pass with length 65,536; 129 packets are 4; packets (2^64 - 1, 1) are 4
    ∷ gives (packets (replicate 128 512) 65536) (Packs (Ok tt))
    ∷ gives (packets (replicate 129 512) 66048) (Packs (Err (invalid 4)))
    ∷ gives (packets (0xffff_ffff_ffff_ffff ∷ 1 ∷ []) 0) (Packs (Err (invalid 4)))
    -- SETUP 80h 06h, value 0100h, index 0, length 18 gives bytes 80 06 00 01 00 00 12 00
    ∷ gives (Writes (setup_bytes (record { request_type = 0x80; request = 6; value = 0x0100; index = 0; length = 18 }))) (Writes (0x80 ∷ 0x06 ∷ 0x00 ∷ 0x01 ∷ 0x00 ∷ 0x00 ∷ 0x12 ∷ 0x00 ∷ []))
    -- type 60h is 13. Type 80h request 5 is 14 in prepare and passes 19 in a plan
    ∷ gives (control Out 0 (packet 0x60 6 0)) (Prepares (Err (unsupported 13)))
    ∷ gives (control In 0 (packet 0x80 5 0)) (Prepares (Err (unsupported 14)))
    ∷ gives (compliant (packet 0x80 5 0) None) (plan_ok (packet 0x80 5 0))
    -- Compliant, type 80h, length 0, status IN: no stage passes, an empty stage is 22
    ∷ gives (compliant (packet 0x80 6 0) None) (plan_ok (packet 0x80 6 0))
    ∷ gives (compliant (packet 0x80 6 0) (Some (record { direction = In; length = 0 }))) (Plans (Err (invalid 22)))
    -- requested 8: code 13 with 0 bytes completes; code 1 with length 9 is Failed, not quiescent
    ∷ gives (polled 13 []) (Leaves (Completed 0 13 false ∷ []))
    ∷ gives (polled 1 (replicate 9 0)) (Leaves (Failed (refusal ErrorCategory.RecoveryRequired 48 (Some 1)).error (Some 1) false ∷ []))
    -- tokens 7, 9 affected, ready, aborted (7): 46. Not ready: 7 Aborted, 9 Pending, recovery marked
    ∷ gives (aborted true (7 ∷ [])) (Recovers (Err (invalid 46)) RecoveryRequired (pending ∷ pending ∷ []))
    ∷ gives (aborted false (7 ∷ [])) (Recovers one_aborted RecoveryRequired (pending ∷ Aborted ∷ []))
    ∷ []

-- every example of a list holds
abbrev pub Shown : List Example → Type 0
Shown l = map (λ (e : Example). e.computed) l ≡ map (λ (e : Example). e.expected) l
