-- One law for each way out of the checks of a device and its endpoint: its premises are the facts in hand there. Assumes nothing.
use Rattle.std.specs.Prelude.{Option, Some, None, Result, Ok, Err, ⊤, ok_or}
use Prim.Native.Nat.{ℕ}
use mathlib.Core.Bool.{Bool, true, false, not, ◌&&◌}
use mathlib.Core.Path.{◌≡◌, refl, ap, sym, ◌∙◌}
use lib.Dec.{eqb}
use Rattle.chain.specs.After.{After, after}
use Rattle.chain.specs.Chain.{◌if◌else◌}
use Rattle.chain.proofs.Chain.{takes, passes, not_through}
use Rattle.models.specs.Kinds.{is_control, is_bulk, is_isochronous, is_prepared, is_configured}
use Rattle.models.specs.Refusals.{refusal_of, rejected}
use Rattle.models.specs.Requests.{same_device}
use Rattle.models.specs.declared.{DeviceId.DeviceId, DeviceSnapshot.DeviceSnapshot, OperationError.OperationError, Ports.Ports, Refusal.Refusal, RequestMetadata.RequestMetadata, TransferType.TransferType}
use Rattle.standards.specs.Ports.{port_speed}
use Rattle.standards.specs.Speeds.{low_speed}
use Rattle.bus.specs.Tables.{Bus, device_at, mark_at}
use Rattle.bus.specs.Ports.{fresh_port}
use Rattle.bus.specs.Endpoints.{has_endpoint}
use Rattle.targets.specs.Target.{known_by, known_device, prepared_device, fresh_device, check_device_by, check_device, speed_checked, endpoint_by, check_endpoint, check_target_by, check_target}
use Rattle.targets.specs.declared.{Readings.Readings}

-- 26, 27, 28: m is the slot's mark
module _ (i : Bool) (id : DeviceId) (b : Bus) (m : Bool) (em : m ≡ mark_at b id.slot) where
  pub known_marked : (r : Refusal) → m ≡ true → r ≡ refusal_of 26 → Err r ≡ known_device i id b
  unfolding known_device
  known_marked r e er = takes (Result DeviceSnapshot Refusal) _ _ _ _ (sym em ∙ e) (ap Err er)

  module _ (clear : m ≡ false) (found : Option DeviceSnapshot) (ef : found ≡ device_at b id.slot) (absent : Refusal) (ea : absent ≡ refusal_of 27) (o : Result DeviceSnapshot Refusal) (eo : o ≡ ok_or found absent) where
    pub known_absent : (r : Refusal) → o ≡ Err r → Err r ≡ known_device i id b
    unfolding known_device known_by
    known_absent r e = passes (Result DeviceSnapshot Refusal) _ _ _ _ (sym em ∙ clear) (rw (← ef) (by found (sym eo ∙ e)))
      where
        by : (f : Option DeviceSnapshot) → ok_or f absent ≡ Err r → Err r ≡ known_by f i id
        by None z = sym z ∙ ap Err ea
        by (Some d) z = cc

    module _ (d : DeviceSnapshot) (ed : o ≡ Ok d) where
      known_on : (r : Result DeviceSnapshot Refusal) → r ≡ known_by (Some d) i id → r ≡ known_device i id b
      unfolding known_device
      known_on r er = passes (Result DeviceSnapshot Refusal) _ _ _ _ (sym em ∙ clear) (er ∙ ap (λ (x : Option DeviceSnapshot). known_by x i id) (sym (by found (sym eo ∙ ed)) ∙ ef))
        where
          by : (f : Option DeviceSnapshot) → ok_or f absent ≡ Ok d → f ≡ Some d
          by None z = cc
          by (Some x) z = cc

      module _ (other : Bool) (eq : other ≡ not (same_device d.id id)) where
        pub known_other : (r : Refusal) → other ≡ true → r ≡ refusal_of 27 → Err r ≡ known_device i id b
        unfolding known_by
        known_other r e er = known_on (Err r) (takes (Result DeviceSnapshot Refusal) _ _ _ _ (sym eq ∙ e) (ap Err er))

        module _ (own : other ≡ false) where
          pub known_early : (r : Refusal) → not i ≡ true → r ≡ refusal_of 28 → Err r ≡ known_device i id b
          unfolding known_by
          known_early r e er =
              known_on (Err r) (passes (Result DeviceSnapshot Refusal) _ _ _ _ (sym eq ∙ own) (takes (Result DeviceSnapshot Refusal) _ _ _ _ e (ap Err er)))

          pub known_ready : not i ≡ false → Ok d ≡ known_device i id b
          unfolding known_by
          known_ready e =
              known_on (Ok d) (passes (Result DeviceSnapshot Refusal) _ _ _ _ (sym eq ∙ own) (passes (Result DeviceSnapshot Refusal) _ _ _ _ e refl))

-- 35
module _ (p : Result ℕ Refusal) (d : DeviceSnapshot) where
  pub prepared_refused : (r : Refusal) → p ≡ Err r → Err r ≡ prepared_device p d
  unfolding prepared_device
  prepared_refused r e = rw e

  module _ (raw : ℕ) (ep : p ≡ Ok raw) (t : Bool) (et : t ≡ is_prepared d.state) where
    pub prepared_early : (r : Refusal) → not t ≡ true → r ≡ refusal_of 35 → Err r ≡ prepared_device p d
    unfolding prepared_device
    prepared_early r e er = rw ep (takes (Result DeviceSnapshot Refusal) _ _ _ _ (not_through t _ true et e) (ap Err er))

    pub prepared_ready : not t ≡ false → Ok d ≡ prepared_device p d
    unfolding prepared_device
    prepared_ready e = rw ep (passes (Result DeviceSnapshot Refusal) _ _ _ _ (not_through t _ false et e) refl)

-- the port's reading, then 35
pub fresh_is : (o : Option Ports) (d : DeviceSnapshot) (reading : Result ℕ OperationError) (b left : Bus) (p : Result ℕ Refusal) (r : Result DeviceSnapshot Refusal)
    → after p left ≡ fresh_port o d.port reading b → r ≡ prepared_device p d → after r left ≡ fresh_device o d reading b
unfolding fresh_device
fresh_is o d reading b left p r e er = rw (er, ← e)

-- 26 to 35
module _ (i : Bool) (o : Option Ports) (id : DeviceId) (reading : Result ℕ OperationError) (b : Bus) (k : Result DeviceSnapshot Refusal) (ek : k ≡ known_device i id b) where
  pub device_refused : (r : Refusal) → k ≡ Err r → after (Err r) b ≡ check_device i o id reading b
  unfolding check_device check_device_by
  device_refused r e = rw (← ek, e)

  pub device_fresh : (d : DeviceSnapshot) (r : Result DeviceSnapshot Refusal) (left : Bus) → k ≡ Ok d → after r left ≡ fresh_device o d reading b
      → after r left ≡ check_device i o id reading b
  unfolding check_device check_device_by
  device_fresh d r left e er = er ∙ rw (← ek, e)

-- 37, 58 and 38
module _ (raw slot endpoint : ℕ) (type : TransferType) (b : Bus) (speed : ℕ) (bulk : Bool) (es : speed ≡ port_speed raw) (eb : bulk ≡ is_bulk type) where
  pub speed-bulk : (r : Result ⊤ Refusal) → (eqb speed low_speed && bulk) ≡ true → r ≡ rejected 37 → r ≡ speed_checked raw slot endpoint type b
  unfolding speed_checked
  speed-bulk r e er = takes (Result ⊤ Refusal) _ _ _ _ (rw (es, eb) at e) er

  module _ (noBulk : (eqb speed low_speed && bulk) ≡ false) (isochronous : Bool) (ei : isochronous ≡ is_isochronous type) where
    pub speed-isochronous : (r : Result ⊤ Refusal) → (eqb speed low_speed && isochronous) ≡ true → r ≡ rejected 58 → r ≡ speed_checked raw slot endpoint type b
    unfolding speed_checked
    speed-isochronous r e er = passes (Result ⊤ Refusal) _ _ _ _ (rw (es, eb) at noBulk) (takes (Result ⊤ Refusal) _ _ _ _ (rw (es, ei) at e) er)

    module _ (neither : (eqb speed low_speed && isochronous) ≡ false) where
      pub placed_by_lem : (r : Result ⊤ Refusal) → r ≡ (rejected 38 if not (has_endpoint slot endpoint type b) else (Ok tt)) → r ≡ speed_checked raw slot endpoint type b
      unfolding speed_checked
      placed_by_lem r er = passes (Result ⊤ Refusal) _ _ _ _ (rw (es, eb) at noBulk) (passes (Result ⊤ Refusal) _ _ _ _ (rw (es, ei) at neither) er)

      module _ (t : Bool) (et : t ≡ has_endpoint slot endpoint type b) where
        pub speed_absent : (r : Result ⊤ Refusal) → not t ≡ true → r ≡ rejected 38 → r ≡ speed_checked raw slot endpoint type b
        speed_absent r e er = placed_by_lem r (takes (Result ⊤ Refusal) _ _ _ _ (not_through t _ true et e) er)

        pub speed_pass : not t ≡ false → (Ok tt) ≡ speed_checked raw slot endpoint type b
        speed_pass e = placed_by_lem (Ok tt) (passes (Result ⊤ Refusal) _ _ _ _ (not_through t _ false et e) refl)

-- 36, then the second reading
module _ (o : Option Ports) (d : DeviceSnapshot) (m : RequestMetadata) (reading : Result ℕ OperationError) (b : Bus) (t : Bool) (et : t ≡ is_configured d.state) where
  pub endpoint_early : (r : Result ⊤ Refusal) → not t ≡ true → r ≡ rejected 36 → after r b ≡ check_endpoint o d m reading b
  unfolding check_endpoint
  endpoint_early r e er = takes (After (Result ⊤ Refusal) Bus) _ _ _ _ (not_through t _ true et e) (rw er)

  module _ (e : not t ≡ false) (p : Result ℕ Refusal) (left : Bus) (ef : after p left ≡ fresh_port o d.port reading b) where
    endpoint_read : (r : Result ⊤ Refusal) → r ≡ endpoint_by p m left → after r left ≡ check_endpoint o d m reading b
    unfolding check_endpoint
    endpoint_read r er = passes (After (Result ⊤ Refusal) Bus) _ _ _ _ (not_through t _ false et e) (rw (er, ← ef))

    pub endpoint_refused : (x : Refusal) (r : Result ⊤ Refusal) → p ≡ Err x → r ≡ Err x → after r left ≡ check_endpoint o d m reading b
    unfolding endpoint_by
    endpoint_refused x r ep er = endpoint_read r (er ∙ rw ep)

    pub endpoint_on : (raw : ℕ) (r : Result ⊤ Refusal) → p ≡ Ok raw → r ≡ speed_checked raw m.device.slot m.endpoint m.transfer_type left
        → after r left ≡ check_endpoint o d m reading b
    unfolding endpoint_by
    endpoint_on raw r ep er = endpoint_read r (er ∙ rw ep)

-- what follows the device's check
module _ (i : Bool) (o : Option Ports) (m : RequestMetadata) (x : Readings) (b middle : Bus) (k : Result DeviceSnapshot Refusal) (ek : after k middle ≡ check_device i o m.device x.first b) where
  target_is : (r : After (Result ⊤ Refusal) Bus) → r ≡ check_target_by k o m x.second middle → r ≡ check_target i o m x b
  unfolding check_target
  target_is r er = er ∙ rw (← ek)

  pub target_refused : (r : Refusal) (y : Result ⊤ Refusal) → k ≡ Err r → y ≡ Err r → after y middle ≡ check_target i o m x b
  unfolding check_target_by
  target_refused r y e ey = target_is (after y middle) (rw (ey, e))

  module _ (d : DeviceSnapshot) (e : k ≡ Ok d) (t : Bool) (et : t ≡ is_control m.transfer_type) where
    pub target_control : t ≡ true → after (Ok tt) middle ≡ check_target i o m x b
    unfolding check_target_by
    target_control c = target_is (after (Ok tt) middle) (rw e (takes (After (Result ⊤ Refusal) Bus) _ _ _ _ (sym et ∙ c) refl))

    pub target_other : (r : Result ⊤ Refusal) (left : Bus) → t ≡ false → after r left ≡ check_endpoint o d m x.second middle
        → after r left ≡ check_target i o m x b
    unfolding check_target_by
    target_other r left c er = target_is (after r left) (rw e (passes (After (Result ⊤ Refusal) Bus) _ _ _ _ (sym et ∙ c) er))
