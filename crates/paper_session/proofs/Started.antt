-- What the start is, without calls: none of its calls is refused. Assumes nothing.
use Rattle.std.specs.Prelude.{Option, Some, None, Result, Ok, ⊤}
use Prim.Native.Nat.{ℕ, zero, suc, ◌+◌, ◌*◌, ◌<◌, ◌≤◌}
use mathlib.Core.Bool.{Bool, true, false, not}
use mathlib.Core.List.{List, [], ◌∷◌}
use mathlib.Core.Logic.{⊎_elim}
use mathlib.Core.Path.{◌≡◌, refl, sym, ap, ◌∙◌}
use native.Mathlib.Omega.{arith}
use lib.ListN.{length, get_or, set, replicate, length-append, length-set, length-replicate, get_or-replicate}
use lib.Seq.{get_or-set_same, get_or-set_other}
use borrow.Author.Tests.{eq-eqb}
use Rattle.chain.specs.After.{After, after}
use Rattle.chain.specs.Chain.{◌if◌else◌}
use Rattle.chain.proofs.Chain.{passes, both}
use Rattle.words.proofs.Records.{splice-length, le_or_lt}
use Rattle.models.specs.declared.{DeviceSnapshot.DeviceSnapshot, Refusal.Refusal}
use Rattle.rows.specs.Store.{store_of, emptied}
use Rattle.bus.specs.Endpoints.{set_endpoints}
use Rattle.bus.specs.Ports.{number_checked, set_port_by, set_port}
use Rattle.bus.specs.Layout.{bus_words, devices_at, lists_at, device_record, port_record}
use Rattle.bus.specs.Tables.{Bus, bus_of, new_port, new_ports, put_port, put_device, put_endpoints, cleared}
use Rattle.bus.specs.declared.{PortRow.PortRow}
use Rattle.session.specs.Lent.{Memory, Lent, memory, lent, tables_fit, lent_fits}
use Rattle.session.specs.Lifecycle.{new_session, open_of, acquired_by, acquire_of, initialized_by, initialize_of}
use Rattle.session.specs.Place.{placed, set_device_of, set_port_of, set_endpoints_of}
use Rattle.session.specs.Session.{is_busy}
use Rattle.session.specs.Sizes.{rows_fit, area_fits, memory_sizes, lent_sizes}
use Rattle.session.specs.Start.{guarded}
use Rattle.session.specs.declared.{Session.Session, Size.Size}
use Rattle.calls.specs.Calls.{Placing, Device, Port, Endpoints, Open, Place}
use Rattle.calls.specs.Step.{World, world, opens, places, placed_of, step_of, next, made_on, no_session}
use Rattle.calls.proofs.Made.{made_append}
use Rattle.paper_session.specs.Start.{paper_size, paper_opening, paper_port, slot_snapshot, bulk_endpoints, readied, ready_calls, opening_calls, slot_calls, slots_calls, start_on, paper_words, paper_bytes, paper_session, slots_on, ported_bus, started_on, Started, blank_lent}
use Rattle.paper_session.proofs.Laws.{ready_to}

-- a placing call where nothing is in flight and the bus has its size
placed_on : (done : After (Result ⊤ Refusal) Bus) (s : Session) (b : Bus) → is_busy s.in_flight ≡ false → length b.words ≡ bus_words → placed done s b ≡ done
unfolding placed guarded
placed_on done s b free sized =
    sym (passes (After (Result ⊤ Refusal) Bus) _ _ _ done free (passes (After (Result ⊤ Refusal) Bus) _ _ _ done (ap not (eq-eqb (length b.words) bus_words sized)) refl))

-- leaves the session and the memory as they are
handed : (p : Placing) (w : World) (left : Bus) → placed_of p w ≡ after (Ok tt) left
    → next (step_of (Place p) w) ≡ world w.session (lent left w.lent.memory)
unfolding step_of
handed p w left h = ap (λ (z : After (Result ⊤ Refusal) Bus). next (places z w)) h

module _ (s : Session) (b : Bus) (m : Memory) (free : is_busy s.in_flight ≡ false) (sized : length b.words ≡ bus_words) where
  device_on : (d : DeviceSnapshot) → next (step_of (Place (Device d)) (world s (lent b m))) ≡ world s (lent (put_device b d) m)
  unfolding placed_of set_device_of
  device_on d = handed (Device d) (world s (lent b m)) (put_device b d) (placed_on _ s b free sized)

  -- a list of bulk endpoints is not too long
  bulk_on : (slot : ℕ) → next (step_of (Place (Endpoints slot bulk_endpoints)) (world s (lent b m))) ≡ world s (lent (put_endpoints b slot bulk_endpoints) m)
  unfolding placed_of set_endpoints_of set_endpoints
  bulk_on slot =
      handed (Endpoints slot bulk_endpoints) (world s (lent b m)) (put_endpoints b slot bulk_endpoints)
      (placed_on _ s b free sized ∙ sym (passes (After (Result ⊤ Refusal) Bus) _ _ _ _ refl refl))

-- a device and a list of endpoints keep the bus's size
device_sized : (b : Bus) (d : DeviceSnapshot) → d.id.slot < 256 → length b.words ≡ bus_words → length (put_device b d).words ≡ bus_words
unfolding put_device device_record
device_sized b d h sized = splice-length (devices_at + d.id.slot * 8) (device_record d) b.words (omega arith) ∙ sized

bulk_sized : (b : Bus) (slot : ℕ) → slot < 256 → length b.words ≡ bus_words → length (put_endpoints b slot bulk_endpoints).words ≡ bus_words
unfolding put_endpoints
bulk_sized b slot h sized = splice-length (lists_at + slot * 31) (15 ∷ bulk_endpoints) b.words (omega arith) ∙ sized

slots_sized : (n : ℕ) (b : Bus) → n ≤ 256 → length b.words ≡ bus_words → length (slots_on n b).words ≡ bus_words
unfolding slots_on
slots_sized zero b h sized = sized
slots_sized (suc n) b h sized =
    bulk_sized _ n h (device_sized (slots_on n b) (slot_snapshot n) h (slots_sized n b (omega arith) sized))

-- the calls of the first n slots leave the devices and the endpoints there
slots_on_lem : (n : ℕ) (s : Session) (b : Bus) (m : Memory) → is_busy s.in_flight ≡ false → n ≤ 256 → length b.words ≡ bus_words
    → made_on (slots_calls n) (world s (lent b m)) ≡ world s (lent (slots_on n b) m)
unfolding slots_calls slots_on
slots_on_lem zero s b m free h sized = refl
slots_on_lem (suc n) s b m free h sized =
    let c : Bus = slots_on n b in
    let k : length c.words ≡ bus_words = slots_sized n b (omega arith) sized in
    made_append (slots_calls n) (slot_calls n) (world s (lent b m))
    ∙ ap (made_on (slot_calls n)) (slots_on_lem n s b m free (omega arith) sized)
    ∙ ap (λ (w : World). next (step_of (Place (Endpoints n bulk_endpoints)) w)) (device_on s c m free k (slot_snapshot n))
    ∙ bulk_on s (put_device c (slot_snapshot n)) m free (device_sized c (slot_snapshot n) h k) n

cleared_sized : length cleared.words ≡ bus_words
unfolding cleared
cleared_sized = length-append (new_ports 255) (replicate 10240 0) ∙ ap (λ (n : ℕ). 510 + n) (length-replicate {0} {A = ℕ} 10240 0)

-- opened where the sizes are right, then acquired and Initialized, then with port 1
opened_on : (l : Lent) → lent_fits paper_size l ≡ true
    → next (step_of (Open paper_opening) (world no_session l))
    ≡ world (new_session paper_opening) (lent cleared (memory (emptied l.memory.store) l.memory.area))
unfolding step_of open_of
opened_on l fits = ap (λ (z : After (Result Session Refusal) Lent). next (opens z (world no_session l))) (sym (passes (After (Result Session Refusal) Lent) _ _ _ _ (ap not fits) refl))

readied_on : readied (new_session paper_opening) ≡ paper_session
unfolding readied acquire_of acquired_by initialize_of initialized_by ◌if◌else◌
readied_on = refl

port_on : (m : Memory) → next (step_of (Place (Port 1 paper_port)) (world paper_session (lent cleared m))) ≡ world paper_session (lent ported_bus m)
unfolding placed_of set_port_of set_port set_port_by number_checked ◌if◌else◌ ported_bus
port_on m = handed (Port 1 paper_port) (world paper_session (lent cleared m)) ported_bus (placed_on _ paper_session cleared refl cleared_sized)

opening_on : (l : Lent) → lent_fits paper_size l ≡ true
    → made_on opening_calls (world no_session l) ≡ world paper_session (lent ported_bus (memory (emptied l.memory.store) l.memory.area))
opening_on l fits =
    let m : Memory = memory (emptied l.memory.store) l.memory.area in
    ap (made_on ready_calls) (opened_on l fits)
    ∙ ap (λ (w : World). next (step_of (Place (Port 1 paper_port)) w))
    (sym (ready_to (new_session paper_opening) (lent cleared m)) ∙ ap (λ (z : Session). world z (lent cleared m)) readied_on)
    ∙ port_on m

ported_sized : length ported_bus.words ≡ bus_words
unfolding ported_bus put_port
ported_sized =
    let n = cleared_sized in
    splice-length 0 (port_record paper_port) cleared.words (omega arith) ∙ n

-- the start is the session Initialized, the bus at opening with port 1 and every slot, every row free, and the area as it was
pub start_is : (l : Lent) → lent_fits paper_size l ≡ true → start_on l ≡ started_on l
unfolding start_on started_on
start_is l fits =
    made_append opening_calls (slots_calls 256) (world no_session l)
    ∙ ap (made_on (slots_calls 256)) (opening_on l fits)
    ∙ slots_on_lem 256 paper_session ported_bus _ refl (omega arith) ported_sized

-- ---- what stands at each slot

module _ {A : Type 0} (f : ℕ → A) where
  -- a list with f in its first n places
  abbrev filled : ℕ → List A → List A
  filled zero l = l
  filled (suc n) l = set (filled n l) n (f n)

  filled-length : (n : ℕ) (l : List A) → length (filled n l) ≡ length l
  filled-length zero l = refl
  filled-length (suc n) l = length-set (filled n l) n (f n) ∙ filled-length n l

  filled_at : (n i : ℕ) (l : List A) (d : A) → i < n → n ≤ length l → get_or (filled n l) i d ≡ f i
  filled_at zero i l d h k = absurd (omega arith)
  filled_at (suc n) i l d h k =
      ⊎_elim
      (λ (le : n ≤ i). let e : i ≡ n = omega arith in rw e (get_or-set_same (filled n l) n (f n) d (rw (filled-length n l) (omega arith))))
      (λ (lt : i < n). get_or-set_other (filled n l) n i (f n) d (λ e. omega arith) ∙ filled_at n i l d lt (omega arith))
      (le_or_lt n i)

-- the tables of a bus with the first n slots
slots_devices : (n : ℕ) (b : Bus) → (slots_on n b).devices ≡ filled (λ (k : ℕ). Some (slot_snapshot k)) n b.devices
unfolding slots_on put_device put_endpoints
slots_devices zero b = refl
slots_devices (suc n) b = ap (λ (t : List (Option DeviceSnapshot)). set t n (Some (slot_snapshot n))) (slots_devices n b)

slots_lists : (n : ℕ) (b : Bus) → (slots_on n b).lists ≡ filled (λ (k : ℕ). bulk_endpoints) n b.lists
unfolding slots_on put_device put_endpoints
slots_lists zero b = refl
slots_lists (suc n) b = ap (λ (t : List (List ℕ)). set t n bulk_endpoints) (slots_lists n b)

slots_ports : (n : ℕ) (b : Bus) → (slots_on n b).ports ≡ b.ports
unfolding slots_on put_device put_endpoints
slots_ports zero b = refl
slots_ports (suc n) b = slots_ports n b

slots_marks : (n : ℕ) (b : Bus) → (slots_on n b).marks ≡ b.marks
unfolding slots_on put_device put_endpoints
slots_marks zero b = refl
slots_marks (suc n) b = slots_marks n b

ported_port : get_or ported_bus.ports 0 new_port ≡ paper_port
unfolding ported_bus put_port cleared
ported_port = get_or-set_same (replicate 255 new_port) 0 paper_port new_port (rw (length-replicate {0} {A = PortRow} 255 new_port) (omega arith))

ported_devices : length ported_bus.devices ≡ 256
unfolding ported_bus put_port cleared
ported_devices = length-replicate {0} {A = (Option DeviceSnapshot)} 256 None

ported_lists : length ported_bus.lists ≡ 256
unfolding ported_bus put_port cleared
ported_lists = length-replicate {0} {A = List ℕ} 256 []

ported_mark : (slot : ℕ) → slot < 256 → get_or ported_bus.marks slot false ≡ false
unfolding ported_bus put_port cleared
ported_mark slot h = get_or-replicate 256 slot false false h

-- sizes that are right stay right where the rows are emptied and the bus is another that fits
fits_still : (z : Size) (l : Lent) (b : Bus) → lent_fits z l ≡ true → length b.words ≡ bus_words
    → lent_fits z (lent b (memory (emptied l.memory.store) l.memory.area)) ≡ true
unfolding emptied
fits_still z l b fits sized =
    let words : ℕ = length l.memory.store.words in
    let h = both (memory_sizes z words (length l.memory.area)) (tables_fit l.bus) fits in
    rw (length-replicate {0} {A = ℕ} words 0, h.0, sized)

-- for every lent memory whose sizes are right
pub start_placed : (l : Lent) → lent_fits paper_size l ≡ true → Started l (start_on l)
unfolding started_on
start_placed l fits =
    rw (start_is l fits) (record {
      session = refl;
      fits = fits_still paper_size l (slots_on 256 ported_bus) fits (slots_sized 256 ported_bus (omega arith) ported_sized);
      port = ap (λ (t : List PortRow). get_or t 0 new_port) (slots_ports 256 ported_bus) ∙ ported_port;
      device = λ slot h.
          ap (λ (t : List (Option DeviceSnapshot)). get_or t slot None) (slots_devices 256 ported_bus)
          ∙ filled_at (λ (k : ℕ). Some (slot_snapshot k)) 256 slot ported_bus.devices None h (rw ported_devices (omega arith));
      endpoints = λ slot h.
          ap (λ (t : List (List ℕ)). get_or t slot []) (slots_lists 256 ported_bus)
          ∙ filled_at (λ (k : ℕ). bulk_endpoints) 256 slot ported_bus.lists [] h (rw ported_lists (omega arith));
      mark = λ slot h. ap (λ (t : List Bool). get_or t slot false) (slots_marks 256 ported_bus) ∙ ported_mark slot h;
      store = refl;
      area = refl;
    })

-- 64 rows of 256 bytes, and a bus
fits_by : (words area bus : ℕ) → words ≡ paper_words → area ≡ paper_bytes → bus ≡ bus_words → lent_sizes paper_size words area bus ≡ true
unfolding rows_fit area_fits
fits_by words area bus ew ea eb = rw (ew, ea, eb)

-- a paper's store as it is made, every word 0, has the right sizes
pub blank_fits : lent_fits paper_size blank_lent ≡ true
unfolding bus_of store_of
blank_fits =
    fits_by _ _ _ (length-replicate {0} {A = ℕ} paper_words 0) (length-replicate {0} {A = ℕ} paper_bytes 0) (length-replicate {0} {A = ℕ} bus_words 0)
