-- One law for each function of the start: its premises are the facts in hand there. Assumes nothing.
use Rattle.std.specs.Prelude.{None, Result, ⊤, Ok}
use Prim.Native.Nat.{ℕ, ◌+◌, ◌≤◌}
use mathlib.Core.List.{[], ◌∷◌}
use mathlib.Core.Path.{◌≡◌, refl, sym, ap, ◌∙◌}
use native.Mathlib.Numerals.{add-one}
use native.Mathlib.Omega.{arith}
use Rattle.chain.specs.After.{After, after}
use Rattle.models.specs.declared.{DeviceSnapshot.DeviceSnapshot, Refusal.Refusal}
use Rattle.bus.specs.Tables.{Bus}
use Rattle.bus.specs.declared.{PortRow.PortRow}
use Rattle.session.specs.Lent.{Memory, Lent, lent}
use Rattle.session.specs.Lifecycle.{open_of, acquire_of, initialize_of}
use Rattle.session.specs.Place.{set_device_of, set_port_of, set_endpoints_of}
use Rattle.session.specs.declared.{Called.Called, Session.Session, lifecycle.Opening.Opening}
use Rattle.calls.specs.Answers.{of_opened}
use Rattle.calls.specs.Calls.{Placing, Device, Port, Endpoints, Acquire, Initialize, Open, Place, Move}
use Rattle.calls.specs.Step.{World, world, opens, places, placed_of, moved_of, step_of, next, made_on, no_session}
use Rattle.calls.specs.declared.{Outcome.Outcome}
use Rattle.calls.proofs.Made.{made_append}
use Rattle.paper_session.specs.Start.{paper_opening, paper_port, slot_snapshot, bulk_endpoints, readied, ready_calls, opening_calls, slot_calls, slots_calls, start_on}

-- what a placing call leaves
placed : (p : Placing) (s : Session) (b left : Bus) (m : Memory) (x : Result ⊤ Refusal) → after x left ≡ placed_of p (world s (lent b m))
    → world s (lent left m) ≡ next (step_of (Place p) (world s (lent b m)))
unfolding step_of
placed p s b left m x h = ap (λ (z : After (Result ⊤ Refusal) Bus). next (places z (world s (lent b m)))) h

-- a slot's device, then its endpoints
pub slot_placed : (slot : ℕ) (s : Session) (b mid left : Bus) (d : DeviceSnapshot) (x y : Result ⊤ Refusal) → d ≡ slot_snapshot slot
    → after x mid ≡ set_device_of d s b → after y left ≡ set_endpoints_of slot bulk_endpoints s mid
    → (m : Memory) → world s (lent left m) ≡ made_on (slot_calls slot) (world s (lent b m))
unfolding placed_of
slot_placed slot s b mid left d x y e h g m =
    placed (Endpoints slot bulk_endpoints) s mid left m y g
    ∙ ap (λ (w : World). next (step_of (Place (Endpoints slot bulk_endpoints)) w))
    (placed (Device d) s b mid m x h ∙ ap (λ (z : DeviceSnapshot). next (step_of (Place (Device z)) (world s (lent b m)))) e)

-- the slots before this one are placed, whatever the rows and the area
abbrev pub Placed : ℕ → Session → Bus → Bus → Type 0
Placed slot s b left = (m : Memory) → world s (lent left m) ≡ made_on (slots_calls slot) (world s (lent b m))

pub none_placed : (s : Session) (b : Bus) → Placed 0 s b b
unfolding slots_calls
none_placed s b m = refl

pub next_placed : (slot : ℕ) (s : Session) (b mid left : Bus) → Placed slot s b mid
    → ((m : Memory) → world s (lent left m) ≡ made_on (slot_calls slot) (world s (lent mid m))) → Placed (slot + 1) s b left
unfolding slots_calls
next_placed slot s b mid left h g m =
    rw add-one (g m ∙ ap (made_on (slot_calls slot)) (h m) ∙ sym (made_append (slots_calls slot) (slot_calls slot) (world s (lent b m))))

pub all_placed : (slot : ℕ) (s : Session) (b left : Bus) → slot ≤ 256 → 256 ≤ slot → Placed slot s b left → Placed 256 s b left
all_placed slot s b left lo hi h = let e : slot ≡ 256 = omega arith in rw e at h

-- what an opening leaves
pub opens_to : (l left : Lent) (o : Opening) (s : Session) (x : Result Session Refusal) (r : Outcome) → o ≡ paper_opening → s ≡ no_session → after x left ≡ open_of o l
    → r ≡ of_opened x s → world r.session left ≡ next (step_of (Open paper_opening) (world no_session l))
unfolding step_of
opens_to l left o s x r eo es h e =
    ap (λ (z : Outcome). world z.session left) e
    ∙ ap (λ (z : After (Result Session Refusal) Lent). next (opens z (world s l))) h
    ∙ ap (λ (z : Opening). next (step_of (Open z) (world s l))) eo
    ∙ ap (λ (z : Session). next (step_of (Open paper_opening) (world z l))) es

pub readied_by : (s : Session) (a i : Called ⊤) → a ≡ acquire_of (Ok tt) s → i ≡ initialize_of None a.session → i.session ≡ readied s
unfolding readied
readied_by s a i ea ei = ap (λ (z : Called ⊤). z.session) ei ∙ ap (λ (z : Called ⊤). (initialize_of None z.session).session) ea

-- acquire and initialise leave what is lent
pub ready_to : (s : Session) (l : Lent) → world (readied s) l ≡ made_on (Move (Acquire (Ok tt)) ∷ Move (Initialize None) ∷ []) (world s l)
unfolding readied step_of moved_of
ready_to s l = refl

-- opened, acquired, Initialized, with port 1
pub open_to : (l : Lent) (b left : Bus) (m : Memory) (s r : Session) (row : PortRow) (v : Result ⊤ Refusal)
    → world s (lent b m) ≡ next (step_of (Open paper_opening) (world no_session l)) → r ≡ readied s → row ≡ paper_port → after v left ≡ set_port_of 1 row r b
    → world r (lent left m) ≡ made_on opening_calls (world no_session l)
unfolding placed_of
open_to l b left m s r row v h er ep g =
    placed (Port 1 row) r b left m v g
    ∙ ap (λ (z : PortRow). next (step_of (Place (Port 1 z)) (world r (lent b m)))) ep
    ∙ ap (λ (w : World). next (step_of (Place (Port 1 paper_port)) w)) (ap (λ (z : Session). world z (lent b m)) er ∙ ready_to s (lent b m))
    ∙ ap (made_on ready_calls) h

-- then every slot
pub started : (l : Lent) (s : Session) (b left : Bus) (m : Memory) → world s (lent b m) ≡ made_on opening_calls (world no_session l) → Placed 256 s b left
    → world s (lent left m) ≡ start_on l
unfolding start_on
started l s b left m h g = g m ∙ ap (made_on (slots_calls 256)) h ∙ sym (made_append opening_calls (slots_calls 256) (world no_session l))
