-- One law for each way out of the search for a reading that a submission lacks: its premises are the facts in hand there. Assumes nothing.
use Rattle.std.specs.Prelude.{Some, None, Option, Result, Ok, Err}
use Prim.Native.Nat.{ℕ}
use mathlib.Core.Bool.{Bool}
use mathlib.Core.Path.{◌≡◌, ◌∙◌}
use Rattle.models.specs.declared.{DeviceSnapshot.DeviceSnapshot, OperationError.OperationError, Ports.Ports, Refusal.Refusal, RequestMetadata.RequestMetadata}
use Rattle.bus.specs.Tables.{Bus}
use Rattle.bus.specs.Ports.{validated, fresh_word}
use Rattle.targets.specs.Target.{known_device, prepared_device}
use Rattle.targets.specs.Wants.{second_wanted, second_by, after_first, first_wanted, port_wanted, device_wanted, wanted_by, wanted_reading}
use Rattle.targets.specs.declared.{Readings.Readings, wants.Wanted.Wanted}

module _ (o : Option Ports) (d : DeviceSnapshot) (m : RequestMetadata) (b : Bus) where
  -- 34, 31 and 35 by the first reading
  module _ (raw : ℕ) (second : Result ℕ OperationError) (p : Result ℕ Refusal) (k : Result DeviceSnapshot Refusal) (ep : p ≡ (fresh_word raw o d.port b).result) (ek : k ≡ prepared_device p d) where
    pub after_stop : (r : Refusal) → k ≡ Err r → None ≡ after_first raw second o d m b
    unfolding after_first second_by
    after_stop r e = rw (← ep, ← ek, e)

    pub after_on : (own : DeviceSnapshot) (w : Option Wanted) → k ≡ Ok own → w ≡ second_wanted own m second → w ≡ after_first raw second o d m b
    unfolding after_first second_by
    after_on own w e ew = ew ∙ rw (← ep, ← ek, e)

  -- the first reading
  module _ (first second : Result ℕ OperationError) where
    pub first_missing : (x : OperationError) → first ≡ Err x → Some (Wanted.First d.port.number) ≡ first_wanted first second o d m b
    unfolding first_wanted
    first_missing x e = rw e

    pub first_on : (raw : ℕ) (w : Option Wanted) → first ≡ Ok raw → w ≡ after_first raw second o d m b → w ≡ first_wanted first second o d m b
    unfolding first_wanted
    first_on raw w e ew = ew ∙ rw e

  -- 29 to 32
  module _ (x : Readings) (p : Result ℕ Refusal) (ep : p ≡ validated o d.port b) where
    pub port_stop : (r : Refusal) → p ≡ Err r → None ≡ device_wanted d o m x b
    unfolding device_wanted port_wanted
    port_stop r e = rw (← ep, e)

    pub port_on : (old : ℕ) (w : Option Wanted) → p ≡ Ok old → w ≡ first_wanted x.first x.second o d m b → w ≡ device_wanted d o m x b
    unfolding device_wanted port_wanted
    port_on old w e ew = ew ∙ rw (← ep, e)

-- 26 to 28
module _ (i : Bool) (o : Option Ports) (m : RequestMetadata) (x : Readings) (b : Bus) (k : Result DeviceSnapshot Refusal) (ek : k ≡ known_device i m.device b) where
  pub known_stop : (r : Refusal) → k ≡ Err r → None ≡ wanted_reading i o m x b
  unfolding wanted_reading wanted_by
  known_stop r e = rw (← ek, e)

  pub known_on : (d : DeviceSnapshot) (w : Option Wanted) → k ≡ Ok d → w ≡ device_wanted d o m x b → w ≡ wanted_reading i o m x b
  unfolding wanted_reading wanted_by
  known_on d w e ew = ew ∙ rw (← ek, e)
