-- The session that a paper's events are put to (document 02, M-100). Assumes nothing.
use Rattle.std.specs.Prelude.{ℕ, zero, suc, ◌+◌, ◌*◌, ◌<◌, true, false, ◌≡◌, List, [], ◌∷◌, ◌++◌, replicate, Some, None, Ok}
use Rattle.words.specs.Records.{tab}
use Rattle.models.specs.declared.ControllerState.TheVariants.{Initialized}
use Rattle.models.specs.declared.{DeviceId.DeviceId, DeviceSnapshot.DeviceSnapshot}
use Rattle.models.specs.declared.DeviceState.TheVariants.{Configured}
use Rattle.models.specs.declared.TransferType.TheVariants.{Bulk}
use Rattle.rows.specs.Table.{row_words}
use Rattle.rows.specs.Store.{store_of, emptied}
use Rattle.bus.specs.Layout.{bus_words, endpoint_word}
use Rattle.bus.specs.Tables.{Bus, bus_of, port_at, device_at, endpoints_at, mark_at, put_port, put_device, put_endpoints, cleared}
use Rattle.bus.specs.declared.{PortRow.PortRow}
use Rattle.session.specs.Lent.{Memory, Lent, memory, lent, lent_fits}
use Rattle.session.specs.Lifecycle.{acquire_of, initialize_of}
use Rattle.session.specs.declared.{InFlight.InFlight, Session.Session, Size.Size, lifecycle.Opening.Opening}
use Rattle.calls.specs.Calls.{Call, Open, Place, Device, Port, Endpoints, Move, Acquire, Initialize}
use Rattle.calls.specs.Step.{World, world, no_session, made_on}

-- the store is 64 rows of 256
abbrev pub paper_size : Size
paper_size = record { row_count = 64; row_bytes = 256 }

-- number 1; the first sequence is 0
abbrev pub paper_opening : Opening
paper_opening = record {
  session = 1;
  first_sequence = 0;
  recovery_revision = Some 0;
  port_count = Some 1;
  size = paper_size;
}

-- every reading is 403h: connected, enabled, speed 1
abbrev pub paper_reading : ℕ
paper_reading = 1027

abbrev pub paper_port : PortRow
paper_port = record { generation = 1; reading = Some paper_reading }

-- a slot's device has session 1, generation 0
abbrev pub slot_device : ℕ → DeviceId
slot_device slot = record { session = 1; generation = 0; slot = slot }

-- and is Configured on port 1
abbrev pub slot_snapshot : ℕ → DeviceSnapshot
slot_snapshot slot = record { id = slot_device slot; port = record { session = 1; generation = 1; number = 1 }; state = Configured }

-- endpoints 81h to 8Fh are bulk
abbrev pub bulk_endpoints : List ℕ
bulk_endpoints = tab (λ (k : ℕ). endpoint_word (129 + k) Bulk) 15

-- what acquire and initialise leave of a session, where the backend reports no failure
unfoldable pub readied : Session → Session
readied s = (initialize_of None (acquire_of (Ok tt) s).session).session

abbrev pub ready_calls : List Call
ready_calls = Move (Acquire (Ok tt)) ∷ Move (Initialize None) ∷ Place (Port 1 paper_port) ∷ []

abbrev pub opening_calls : List Call
opening_calls = Open paper_opening ∷ ready_calls

abbrev pub slot_calls : ℕ → List Call
slot_calls slot = Place (Device (slot_snapshot slot)) ∷ Place (Endpoints slot bulk_endpoints) ∷ []

-- the first n slots
unfoldable pub slots_calls : ℕ → List Call
slots_calls zero = []
slots_calls (suc slot) = slots_calls slot ++ slot_calls slot

-- every slot, 0 to 255
abbrev pub start_calls : List Call
start_calls = opening_calls ++ slots_calls 256

unfoldable pub start_on : Lent → World
start_on l = made_on start_calls (world no_session l)

-- how many words the rows have, and how many bytes the area
abbrev pub paper_words : ℕ
paper_words = paper_size.row_count * row_words

abbrev pub paper_bytes : ℕ
paper_bytes = paper_size.row_count * paper_size.row_bytes

-- what a paper's own store and bus are before the opening: zeros
abbrev pub blank_lent : Lent
blank_lent = lent (bus_of (replicate bus_words 0)) (memory (store_of (replicate paper_words 0)) (replicate paper_bytes 0))

-- ---- of a lent bus: placed, whatever the rows and the area

abbrev pub PlacesSlot : ℕ → Session → List ℕ → List ℕ → Type 0
PlacesSlot slot s bus bus' =
    (m : Memory) → world s (lent (bus_of bus') m) ≡ made_on (slot_calls slot) (world s (lent (bus_of bus) m))

abbrev pub PlacesSlots : Session → List ℕ → List ℕ → Type 0
PlacesSlots s bus bus' = (m : Memory) → world s (lent (bus_of bus') m) ≡ made_on (slots_calls 256) (world s (lent (bus_of bus) m))

-- ---- what the start is, without calls

-- nothing is in flight
abbrev pub paper_session : Session
paper_session = record {
  number = 1;
  generation = 0;
  next_sequence = 0;
  ports = Some (record { session = 1; count = 1 });
  state = Initialized;
  recovery_revision = Some 0;
  recoverable_stall = None;
  in_flight = InFlight.Nothing;
  size = paper_size;
}

-- a bus with the devices and the endpoints of the first n slots
unfoldable pub slots_on : ℕ → Bus → Bus
slots_on zero b = b
slots_on (suc slot) b = put_endpoints (put_device (slots_on slot b) (slot_snapshot slot)) slot bulk_endpoints

-- the bus at opening, with port 1
unfoldable pub ported_bus : Bus
ported_bus = put_port cleared 1 paper_port

-- every row is free, and the area is as it was lent
unfoldable pub started_on : Lent → World
started_on l = world paper_session (lent (slots_on 256 ported_bus) (memory (emptied l.memory.store) l.memory.area))

-- what a reader sees there
pub record Started (l : Lent) (w : World) : Type 0 where
  pub session : w.session ≡ paper_session
  pub fits : lent_fits paper_size w.lent ≡ true
  pub port : port_at w.lent.bus 1 ≡ paper_port
  pub device : (slot : ℕ) → slot < 256 → device_at w.lent.bus slot ≡ Some (slot_snapshot slot)
  pub endpoints : (slot : ℕ) → slot < 256 → endpoints_at w.lent.bus slot ≡ bulk_endpoints
  pub mark : (slot : ℕ) → slot < 256 → mark_at w.lent.bus slot ≡ false
  pub store : w.lent.memory.store ≡ emptied l.memory.store
  pub area : w.lent.memory.area ≡ l.memory.area
