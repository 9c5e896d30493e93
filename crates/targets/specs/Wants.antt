-- Which port reading a submission lacks (document 01, the places device and not control of its table): one is wanted where every check before it
-- passes. Assumes nothing.
use Rattle.std.specs.Prelude.{Some, None, ℕ, Bool, true, false, not, Option, Result, Ok, Err}
use Rattle.chain.specs.Chain.{◌if◌else◌}
use Rattle.models.specs.Kinds.{is_control, is_configured}
use Rattle.models.specs.declared.{DeviceSnapshot.DeviceSnapshot, OperationError.OperationError, Ports.Ports, Refusal.Refusal, RequestMetadata.RequestMetadata}
use Rattle.bus.specs.Tables.{Bus}
use Rattle.bus.specs.Ports.{validated, fresh_word}
use Rattle.targets.specs.Target.{known_device, prepared_device}
use Rattle.targets.specs.declared.{Readings.Readings, wants.Wanted.Wanted}

-- a reading that was not taken yet is given as failed
abbrev pub is_missing : Result ℕ OperationError → Bool
is_missing (Err e) = true
is_missing (Ok raw) = false

-- the second comes after 36, and not for control
unfoldable pub second_wanted : DeviceSnapshot → RequestMetadata → Result ℕ OperationError → Option Wanted
second_wanted d m second =
    None if is_control m.transfer_type else
    None if not (is_configured d.state) else
    None if not (is_missing second) else
    Some (Wanted.Second d.port.number)

unfoldable pub second_by : Result DeviceSnapshot Refusal → RequestMetadata → Result ℕ OperationError → Option Wanted
second_by (Err r) m second = None
second_by (Ok d) m second = second_wanted d m second

-- 34, 31 again and 35 by the first, which is the port's word
unfoldable pub after_first : ℕ → Result ℕ OperationError → Option Ports → DeviceSnapshot → RequestMetadata → Bus → Option Wanted
after_first raw second ports d m b = second_by (prepared_device (fresh_word raw ports d.port b).result d) m second

unfoldable pub first_wanted : Result ℕ OperationError → Result ℕ OperationError → Option Ports → DeviceSnapshot → RequestMetadata → Bus → Option Wanted
first_wanted (Err e) second ports d m b = Some (Wanted.First d.port.number)
first_wanted (Ok raw) second ports d m b = after_first raw second ports d m b

-- the first comes after 29 to 32
unfoldable pub port_wanted : Result ℕ Refusal → DeviceSnapshot → Option Ports → RequestMetadata → Readings → Bus → Option Wanted
port_wanted (Err r) d ports m x b = None
port_wanted (Ok old) d ports m x b = first_wanted x.first x.second ports d m b

unfoldable pub device_wanted : DeviceSnapshot → Option Ports → RequestMetadata → Readings → Bus → Option Wanted
device_wanted d ports m x b = port_wanted (validated ports d.port b) d ports m x b

-- and these after 26 to 28
unfoldable pub wanted_by : Result DeviceSnapshot Refusal → Option Ports → RequestMetadata → Readings → Bus → Option Wanted
wanted_by (Err r) ports m x b = None
wanted_by (Ok d) ports m x b = device_wanted d ports m x b

unfoldable pub wanted_reading : Bool → Option Ports → RequestMetadata → Readings → Bus → Option Wanted
wanted_reading initialized ports m x b = wanted_by (known_device initialized m.device b) ports m x b
