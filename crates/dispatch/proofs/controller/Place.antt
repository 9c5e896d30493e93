-- One law for opening and for each placing call, calls 0 to 4: its premises are the facts in hand there. Assumes nothing.
use Rattle.std.specs.Prelude.{Result, ⊤}
use Prim.Native.Nat.{ℕ, ◌%◌, ◌^◌}
use mathlib.Core.Bool.{Bool}
use mathlib.Core.List.{List}
use mathlib.Core.Path.{◌≡◌, ap, ◌∙◌}
use lib.ListN.{get_or, drop}
use Rattle.chain.specs.After.{After, after}
use Rattle.chain.proofs.Chain.{chain}
use Rattle.words.specs.Words.{read_flag}
use Rattle.models.specs.declared.{DeviceSnapshot.DeviceSnapshot, Refusal.Refusal}
use Rattle.bus.specs.Tables.{Bus}
use Rattle.bus.specs.declared.{PortRow.PortRow}
use Rattle.session.specs.Lent.{Memory, Lent, lent}
use Rattle.session.specs.Lifecycle.{open_of}
use Rattle.session.specs.Place.{set_device_of, set_port_of, set_endpoints_of, set_reconcile_of}
use Rattle.session.specs.declared.{Session.Session, lifecycle.Opening.Opening}
use Rattle.calls.specs.Answers.{outcome, of_opened, of_verdict}
use Rattle.call_words.specs.Arguments.{read_opening, read_snapshot, read_port_row}
use Rattle.calls.specs.Calls.{Placing, Device, Port, Endpoints, Reconcile, Open, Place}
use Rattle.calls.specs.Step.{World, world, opens, places, placed_of, step_of}
use Rattle.calls.specs.declared.{Outcome.Outcome}
use Rattle.call_words.specs.Decode.{read_placing}
use Rattle.dispatch.proofs.Steps.{said}

module _ (n : ℕ) (s : Session) (w : List ℕ) (r : Outcome) where
  -- l is lent, and next is what it is afterwards
  pub open_step : (l next : Lent) (x : Result Session Refusal) (o : Opening) → n ≡ 0 → o ≡ read_opening w → r ≡ of_opened x s → after x next ≡ open_of o l
      → after r next ≡ step_of (read_placing n w) (world s l)
  unfolding step_of read_placing
  open_step l next x o e eo er h =
      said (Open o) (read_placing n w) (world s l) _ (search (chain, ap Open eo) depth 20)
      (ap (λ (z : Outcome). after z next) er ∙ ap (λ (z : After (Result Session Refusal) Lent). opens z (world s l)) h)

  -- the bus is b, and afterwards next
  module _ (b next : Bus) (m : Memory) (x : Result ⊤ Refusal) (n0 : n ≡ 0 → ⊥) (er : r ≡ outcome (of_verdict x) s) where
    abbrev handed : World
    handed = world s (lent b m)

    abbrev Steps : Type 0
    Steps = after r (lent next m) ≡ step_of (read_placing n w) handed

    placed : (p : Placing) → Place p ≡ read_placing n w → after x next ≡ placed_of p handed → Steps
    unfolding step_of
    placed p e h =
        said (Place p) (read_placing n w) handed _ e (ap (λ (z : Outcome). after z (lent next m)) er ∙ ap (λ (z : After (Result ⊤ Refusal) Bus). places z handed) h)

    pub device_step : (d : DeviceSnapshot) → n ≡ 1 → d ≡ read_snapshot w → after x next ≡ set_device_of d s b → Steps
    unfolding placed_of read_placing
    device_step d e ed h = placed (Device d) (search (chain, ap (λ (z : DeviceSnapshot). Place (Device z)) ed) depth 20) h

    module _ (at : ℕ) (ea : at ≡ get_or w 1 0 % 2 ^ 8) (n1 : n ≡ 1 → ⊥) where
      pub port_step : (row : PortRow) → n ≡ 2 → row ≡ read_port_row w → after x next ≡ set_port_of at row s b → Steps
      unfolding placed_of read_placing
      port_step row e eo h =
          let c : Place (Port at row) ≡ Place (Port (get_or w 1 0 % 2 ^ 8) (read_port_row w)) = rw (ea, eo) in
          placed (Port at row) (search (chain, c) depth 20) h

      module _ (n2 : n ≡ 2 → ⊥) where
        pub endpoints_step : (list : List ℕ) → n ≡ 3 → list ≡ drop 2 w → after x next ≡ set_endpoints_of at list s b → Steps
        unfolding placed_of read_placing
        endpoints_step list e eo h =
            let c : Place (Endpoints at list) ≡ Place (Endpoints (get_or w 1 0 % 2 ^ 8) (drop 2 w)) = rw (ea, eo) in
            placed (Endpoints at list) (search (chain, c) depth 20) h

        pub reconcile_step : (f : ℕ) (mark : Bool) → (n ≡ 3 → ⊥) → f ≡ get_or w 2 0 → mark ≡ read_flag f → after x next ≡ set_reconcile_of at mark s b → Steps
        unfolding placed_of read_placing
        reconcile_step f mark n3 ef em h =
            let c : Place (Reconcile at mark) ≡ Place (Reconcile (get_or w 1 0 % 2 ^ 8) (read_flag (get_or w 2 0))) = rw (ea, em, ef) in
            placed (Reconcile at mark) (search (chain, c) depth 20) h
