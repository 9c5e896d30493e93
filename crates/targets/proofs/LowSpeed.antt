-- 37 and 58 refuse just what USB 2.0 chapter 5 does not have at low speed, whatever else the request and the bus are. Assumes nothing.
use Rattle.std.specs.Prelude.{Option, Result, Ok, Err, ⊤}
use Prim.Native.Nat.{ℕ}
use mathlib.Core.Bool.{Bool, true, false, not, ◌&&◌}
use mathlib.Core.Path.{◌≡◌, refl, sym}
use lib.Dec.{eqb}
use Rattle.chain.specs.After.{After}
use Rattle.chain.specs.Chain.{◌if◌else◌}
use Rattle.chain.proofs.Chain.{if_all, if_by, and_false}
use Rattle.models.specs.Kinds.{is_control, is_bulk, is_isochronous}
use Rattle.models.specs.Refusals.{rejected}
use Rattle.models.specs.declared.{DeviceSnapshot.DeviceSnapshot, OperationError.OperationError, Ports.Ports, Refusal.Refusal, RequestMetadata.RequestMetadata, TransferType.TransferType}
use Rattle.standards.specs.Ports.{port_speed}
use Rattle.standards.specs.Speeds.{low_speed, is_low_speed_type}
use Rattle.bus.specs.Ports.{fresh_port}
use Rattle.bus.specs.Endpoints.{has_endpoint}
use Rattle.bus.specs.Tables.{Bus}
use Rattle.bus.proofs.Fresh.{Shows, fresh_shows}
use Rattle.targets.specs.Target.{speed_checked, endpoint_by, check_endpoint, check_target_by, check_device, check_target}
use Rattle.targets.proofs.target.Laws.{speed-bulk, speed-isochronous, placed_by_lem}

-- what passes is of a type that low speed has
abbrev Carried : TransferType → Result ⊤ Refusal → Type 0
Carried type (Err r) = Unit {0}
Carried type (Ok tt) = is_low_speed_type type ≡ true

passed : (type : TransferType) (v : Result ⊤ Refusal) → Carried type v → v ≡ (Ok tt) → is_low_speed_type type ≡ true
passed type v h e = rw e at h

carried : (type : TransferType) → is_low_speed_type type ≡ true → (v : Result ⊤ Refusal) → Carried type v
carried type e (Err r) = tt
carried type e (Ok tt) = e

control_carried : (type : TransferType) → is_control type ≡ true → is_low_speed_type type ≡ true
control_carried TransferType.Control e = refl
control_carried TransferType.Bulk e = e
control_carried TransferType.Interrupt e = refl
control_carried TransferType.Isochronous e = e

module _ (raw : ℕ) (low : port_speed raw ≡ low_speed) where
  speed_carries : (slot endpoint : ℕ) (type : TransferType) (b : Bus) → Carried type (speed_checked raw slot endpoint type b)
  speed_carries slot endpoint TransferType.Control b = carried TransferType.Control refl (speed_checked raw slot endpoint TransferType.Control b)
  speed_carries slot endpoint TransferType.Bulk b =
      let e = speed-bulk raw slot endpoint TransferType.Bulk b low_speed true (sym low) refl (rejected 37) refl refl in
      rw (← e) tt
  speed_carries slot endpoint TransferType.Interrupt b = carried TransferType.Interrupt refl (speed_checked raw slot endpoint TransferType.Interrupt b)
  speed_carries slot endpoint TransferType.Isochronous b =
      let e = speed-isochronous raw slot endpoint TransferType.Isochronous b low_speed false (sym low) refl refl true refl (rejected 58) refl refl in
      rw (← e) tt

  module _ (o : Option Ports) (m : RequestMetadata) where
    abbrev Carries : After (Result ⊤ Refusal) Bus → Type 0
    Carries x = Carried m.transfer_type x.result

    port_carries : (x : Result ℕ Refusal) → Shows raw x → (b : Bus) → Carried m.transfer_type (endpoint_by x m b)
    unfolding endpoint_by
    port_carries (Err r) h b = tt
    port_carries (Ok word) h b = rw h (speed_carries m.device.slot m.endpoint m.transfer_type b)

    endpoint_carries : (d : DeviceSnapshot) (b : Bus) → Carries (check_endpoint o d m (Ok raw) b)
    unfolding check_endpoint
    endpoint_carries d b = if_all Carries _ _ _ tt (port_carries (fresh_port o d.port (Ok raw) b).result (fresh_shows raw o d.port b) _)

    target_carries : (x : Result DeviceSnapshot Refusal) (b : Bus) → Carries (check_target_by x o m (Ok raw) b)
    unfolding check_target_by
    target_carries (Err r) b = tt
    target_carries (Ok d) b = if_by Carries _ _ _ (λ y. control_carried m.transfer_type y) (λ y. endpoint_carries d b)

    -- 37 and 58 together: the second reading has low speed, and the request passes; then it is control or interrupt
    pub low_speed_carries : (ready : Bool) (first : Result ℕ OperationError) (b : Bus)
        → (check_target ready o m (record { first = first; second = Ok raw }) b).result ≡ (Ok tt) → is_low_speed_type m.transfer_type ≡ true
    unfolding check_target
    low_speed_carries ready first b = passed m.transfer_type _ (target_carries (check_device ready o m.device first b).result _)

-- and no more is refused by 37 or 58: at another speed, or of a type that low speed has, 38 alone is left
module _ (raw slot endpoint : ℕ) (b : Bus) where
  abbrev Spared : TransferType → Type 0
  Spared type = speed_checked raw slot endpoint type b ≡ (rejected 38 if not (has_endpoint slot endpoint type b) else (Ok tt))

  spared : (type : TransferType) → (eqb (port_speed raw) low_speed && is_bulk type) ≡ false → (eqb (port_speed raw) low_speed && is_isochronous type) ≡ false → Spared type
  spared type noBulk neither = sym (placed_by_lem raw slot endpoint type b _ _ refl refl noBulk _ refl neither _ refl)

  pub low_speed_spares : (type : TransferType) → (eqb (port_speed raw) low_speed && not (is_low_speed_type type)) ≡ false → Spared type
  low_speed_spares TransferType.Control h = spared TransferType.Control h h
  low_speed_spares TransferType.Bulk h = spared TransferType.Bulk h (and_false (eqb (port_speed raw) low_speed))
  low_speed_spares TransferType.Interrupt h = spared TransferType.Interrupt h h
  low_speed_spares TransferType.Isochronous h = spared TransferType.Isochronous (and_false (eqb (port_speed raw) low_speed)) h
