-- Every number that a check of a device or of an endpoint refuses by is in its list. Assumes nothing.
use Rattle.std.specs.Prelude.{Option, Some, None, Result, Ok, Err, ⊤}
use Prim.Native.Nat.{ℕ}
use mathlib.Core.Bool.{Bool, true}
use mathlib.Core.List.{List}
use mathlib.Core.Path.{◌≡◌, refl}
use Rattle.chain.specs.After.{After, after}
use Rattle.chain.specs.Chain.{◌if◌else◌}
use Rattle.chain.proofs.Chain.{if_all}
use Rattle.models.specs.Kinds.{is_control}
use Rattle.models.specs.Said.{Tabled, verdict_said}
use Rattle.models.specs.declared.{DeviceId.DeviceId, DeviceSnapshot.DeviceSnapshot, OperationError.OperationError, Ports.Ports, Refusal.Refusal, RequestMetadata.RequestMetadata}
use Rattle.models.proofs.Said.{tabled_says, tabled_own, tabled_stop, tabled_in, said_of}
use Rattle.bus.specs.Ports.{fresh_port}
use Rattle.bus.specs.Said.{port_said, fresh_port_numbers}
use Rattle.bus.specs.Tables.{Bus, device_at}
use Rattle.bus.proofs.Said.{fresh_tabled}
use Rattle.targets.specs.Said.{device_said, device_numbers, target_numbers}
use Rattle.targets.specs.Target.{known_by, known_device, prepared_device, fresh_device, check_device_by, check_device, speed_checked, endpoint_by, check_endpoint, check_target_by, check_target}
use Rattle.targets.specs.declared.{Readings.Readings}

abbrev Checks : Result DeviceSnapshot Refusal → Type 0
Checks x = Tabled device_numbers (device_said x)

abbrev Targets : List ℕ → After (Result ⊤ Refusal) Bus → Type 0
Targets ns o = Tabled ns (verdict_said o.result)

known_by_lem : (o : Option DeviceSnapshot) (initialized : Bool) (id : DeviceId) → Checks (known_by o initialized id)
unfolding known_by
known_by_lem None initialized id = tabled_own _ 27 refl
known_by_lem (Some d) initialized id = if_all Checks _ _ _ (tabled_own _ 27 refl) (if_all Checks _ _ _ (tabled_own _ 28 refl) (tabled_says _ _))

known_tabled : (initialized : Bool) (id : DeviceId) (b : Bus) → Checks (known_device initialized id b)
unfolding known_device
known_tabled initialized id b = if_all Checks _ _ _ (tabled_own _ 26 refl) (known_by_lem (device_at b id.slot) initialized id)

prepared_by : (x : Result ℕ Refusal) → Tabled fresh_port_numbers (port_said x) → (d : DeviceSnapshot) → Checks (prepared_device x d)
unfolding prepared_device
prepared_by (Err r) h d = tabled_in device_numbers fresh_port_numbers refl _ h
prepared_by (Ok raw) h d = if_all Checks _ _ _ (tabled_own _ 35 refl) (tabled_says _ _)

device_by : (x : Result DeviceSnapshot Refusal) → Checks x → (o : Option Ports) (reading : Result ℕ OperationError) (b : Bus) → Checks (check_device_by x o reading b).result
unfolding check_device_by fresh_device
device_by (Err r) h o reading b = h
device_by (Ok d) h o reading b = prepared_by (fresh_port o d.port reading b).result (fresh_tabled o _ reading b) d

device_tabled : (initialized : Bool) (o : Option Ports) (id : DeviceId) (reading : Result ℕ OperationError) (b : Bus) → Checks (check_device initialized o id reading b).result
unfolding check_device
device_tabled initialized o id reading b = device_by (known_device initialized id b) (known_tabled initialized id b) o reading b

module _ (m : RequestMetadata) where
  endpoint_by_lem : (x : Result ℕ Refusal) → Tabled fresh_port_numbers (port_said x) → (b : Bus) → Tabled target_numbers (verdict_said (endpoint_by x m b))
  unfolding endpoint_by speed_checked
  endpoint_by_lem (Err r) h b = tabled_in target_numbers fresh_port_numbers refl _ h
  endpoint_by_lem (Ok raw) h b = tabled_stop _ 37 refl _ _ (tabled_stop _ 58 refl _ _ (tabled_stop _ 38 refl _ _ (tabled_says _ _)))

  module _ (o : Option Ports) where
    endpoint_tabled : (d : DeviceSnapshot) (reading : Result ℕ OperationError) (b : Bus) → Targets target_numbers (check_endpoint o d m reading b)
    unfolding check_endpoint
    endpoint_tabled d reading b =
        if_all (Targets target_numbers) _ _ _ (tabled_own _ 36 refl) (endpoint_by_lem (fresh_port o d.port reading b).result (fresh_tabled o _ reading b) _)

    target_by_lem : (x : Result DeviceSnapshot Refusal) → Checks x → (second : Result ℕ OperationError) (b : Bus) → Targets target_numbers (check_target_by x o m second b)
    unfolding check_target_by
    target_by_lem (Err r) h second b = tabled_in target_numbers device_numbers refl _ h
    target_by_lem (Ok d) h second b = if_all (Targets target_numbers) _ _ _ (tabled_says _ _) (endpoint_tabled d second b)

    -- control: no second reading, and no endpoint but 0
    control_by : is_control m.transfer_type ≡ true → (x : Result DeviceSnapshot Refusal) → Checks x → (second : Result ℕ OperationError) (b : Bus)
        → Targets device_numbers (check_target_by x o m second b)
    unfolding check_target_by ◌if◌else◌
    control_by e (Err r) h second b = h
    control_by e (Ok d) h second b = rw e (tabled_says _ _)

    module _ (initialized : Bool) (x : Readings) (b : Bus) where
      pub target_tabled : Tabled target_numbers (verdict_said (check_target initialized o m x b).result)
      unfolding check_target
      target_tabled =
          target_by_lem (check_device initialized o m.device x.first b).result (device_tabled initialized o m.device x.first b) x.second _

      pub control_tabled : is_control m.transfer_type ≡ true → Tabled device_numbers (verdict_said (check_target initialized o m x b).result)
      unfolding check_target
      control_tabled e =
          control_by e (check_device initialized o m.device x.first b).result (device_tabled initialized o m.device x.first b) x.second _

      pub target_said : (y : Result ⊤ Refusal) (left : Bus) → after y left ≡ check_target initialized o m x b
          → (after y left ≡ check_target initialized o m x b) × Tabled target_numbers (verdict_said y)
      target_said y left e = said_of (Targets target_numbers) _ _ e target_tabled
