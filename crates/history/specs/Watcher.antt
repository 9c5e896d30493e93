-- For those who watch ports: once a reading's connected bit differs from the port's last, that submission and every later one to a device
-- placed with the old port id is refused by 31, or by what the table puts before it, until the device or the port's row is placed anew.
-- Assumes nothing.
use Rattle.std.specs.Prelude.{ℕ, Bool, true, false, List, [], ◌∷◌, ◌++◌, ◌≡◌, eqb, Option, Some, None, Ok}
use Rattle.chain.specs.Lists.{is_among}
use Rattle.models.specs.Kinds.{is_control}
use Rattle.models.specs.Refusals.{refusal_of}
use Rattle.models.specs.declared.{DeviceSnapshot.DeviceSnapshot, PortId.PortId, Refusal.Refusal}
use Rattle.models.specs.declared.DeviceState.TheVariants.{Configured}
use Rattle.standards.specs.Ports.{port_connected}
use Rattle.bus.specs.Ports.{validated}
use Rattle.bus.specs.Tables.{Bus, device_at, port_at, put_port}
use Rattle.submissions.specs.Said.{early_numbers}
use Rattle.submissions.specs.Submit.{Request}
use Rattle.calls.specs.Calls.{Placing, Device, Port, Endpoints, Reconcile, Beginning, Submit, SubmitPlan, Poll, Recover, Call, Open, Place, Move, Begin, Reply, Change, Read}
use Rattle.calls.specs.Step.{World, step_of, next}
use Rattle.calls.specs.declared.{Answer.Answer}
use Rattle.runs.specs.Run.{Handed, own, rows_only, other, Event, answer_to, end_of, calls}

-- between two states of the bus the port's last reading has changed its connected bit, and the id was the port's before
pub record Turned (id : PortId) (b b' : Bus) : Type 0 where
  pub old : ℕ
  pub raw : ℕ
  pub last : (port_at b id.number).reading ≡ Some old
  pub taken : (port_at b' id.number).reading ≡ Some raw
  pub differs : port_connected old ≡ port_connected raw → ⊥
  pub current : id.generation ≡ (port_at b id.number).generation

-- a call that places the device of that slot or the row of that port
abbrev pub places_one : ℕ → ℕ → Placing → Bool
places_one slot number (Device d) = eqb d.id.slot slot
places_one slot number (Port n row) = eqb n number
places_one slot number (Endpoints n list) = false
places_one slot number (Reconcile n mark) = false

abbrev pub places_at : ℕ → ℕ → Call → Bool
places_at slot number (Open o) = false
places_at slot number (Place p) = places_one slot number p
places_at slot number (Move m) = false
places_at slot number (Begin b) = false
places_at slot number (Reply r) = false
places_at slot number (Change id c) = false
places_at slot number (Read r) = false

-- calls on our own bus that place neither; a call that is handed others leaves it
abbrev pub LeavesBy : ℕ → ℕ → Handed → Call → Type 0
LeavesBy slot number own c = places_at slot number c ≡ false
LeavesBy slot number (rows_only bus area) c = ⊥
LeavesBy slot number (other v) c = Unit {0}

abbrev pub Leaves : ℕ → ℕ → List Event → Type 0
Leaves slot number [] = Unit {0}
Leaves slot number (e ∷ es) = LeavesBy slot number e.handed e.call × Leaves slot number es

-- a submission to a device of that slot
abbrev pub Asks : ℕ → Beginning → Type 0
Asks slot (Submit packets q) = q.spec.device.slot ≡ slot
Asks slot (SubmitPlan q) = q.plan.device.slot ≡ slot
Asks slot (Poll id) = ⊥
Asks slot (Recover id kind) = ⊥

-- a request's second reading, which is taken: not for control, for a Configured device (36), after a first with the connected bit of the port's last
pub record Second (d : DeviceSnapshot) (old first raw : ℕ) (q : Request) : Type 0 where
  pub readings : q.readings ≡ record { first = Ok first; second = Ok raw }
  pub agrees : port_connected old ≡ port_connected first
  pub not_control : is_control q.spec.transfer_type ≡ false
  pub configured : d.state ≡ Configured

-- and a reading of it: the first, or the second after an earlier one
abbrev pub Reads : DeviceSnapshot → ℕ → Option ℕ → ℕ → Beginning → Type 0
Reads d old None raw (Submit packets q) = q.readings.first ≡ Ok raw
Reads d old (Some first) raw (Submit packets q) = Second d old first raw q
Reads d old None raw (SubmitPlan q) = q.reading ≡ Ok raw
Reads d old (Some first) raw (SubmitPlan q) = ⊥
Reads d old earlier raw (Poll id) = ⊥
Reads d old earlier raw (Recover id kind) = ⊥

-- the bus that a reading finds: an earlier one is written, and its connected bit was the port's last
abbrev pub found_by : PortId → Option ℕ → Bus → Bus
found_by id None b = b
found_by id (Some raw) b = put_port b id.number (record { generation = (port_at b id.number).generation; reading = Some raw })

-- what the table puts before a port's reading, and before a reading that its id is valid for
abbrev pub unread_numbers : List ℕ
unread_numbers = early_numbers ++ 26 ∷ 27 ∷ 28 ∷ []

abbrev pub stale_numbers : List ℕ
stale_numbers = unread_numbers ++ 29 ∷ 30 ∷ 31 ∷ []

-- a refusal by one of the numbers
pub record Refuses (ns : List ℕ) (a : Answer) : Type 0 where
  pub refusal : Refusal
  pub is : a ≡ Answer.Refused refusal
  pub among : is_among refusal.number ns ≡ true

-- what a submission whose reading differs comes to: a refusal before any reading, or 34, and that reading isn't written; or 31, and it is
pub data Noticed (id : PortId) (earlier : Option ℕ) (b : Bus) (a : Answer) (b' : Bus) : Type 0 where
  unread : Refuses unread_numbers a → b' ≡ b → Noticed id earlier b a b'
  full : a ≡ Answer.Refused (refusal_of 34) → b' ≡ found_by id earlier b → Noticed id earlier b a b'
  turned : a ≡ Answer.Refused (refusal_of 31) → Turned id b b' → Noticed id earlier b a b'

pub record Watched (w : World) (es : List Event) : Type 0 where
  -- a submission to the slot of a device d whose port id is valid and observed (29 to 32), with a first or second reading whose connected bit differs
  pub noticed : (slot : ℕ) (d : DeviceSnapshot) (before after : List Event) (f : Beginning) (earlier : Option ℕ) (old raw : ℕ)
      → es ≡ before ++ (calls (Begin f) ∷ after)
      → (let at = end_of w before in
      device_at at.lent.bus slot ≡ Some d → Asks slot f → Reads d old earlier raw f
      → validated at.session.ports d.port at.lent.bus ≡ Ok old → (port_connected old ≡ port_connected raw → ⊥)
      → Noticed d.port earlier at.lent.bus (answer_to at (calls (Begin f))) (step_of (Begin f) at).lent.bus)
  -- where a call c turned the port's last reading: every later submission to the slot, unless its device or the port's row was placed anew
  pub refused : (slot : ℕ) (d : DeviceSnapshot) (before mid after : List Event) (c : Call) (f : Beginning)
      → es ≡ before ++ (calls c ∷ (mid ++ (calls (Begin f) ∷ after)))
      → (let at = end_of w before in
      let then = next (step_of c at) in
      device_at at.lent.bus slot ≡ Some d → Turned d.port at.lent.bus then.lent.bus
      → Leaves slot d.port.number (calls c ∷ mid) → Asks slot f → Refuses stale_numbers (answer_to (end_of then mid) (calls (Begin f))))
