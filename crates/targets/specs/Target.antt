-- The places device and not control of document 01's table, in their order. Assumes nothing.
use Rattle.std.specs.Prelude.{ℕ, Bool, not, ◌&&◌, eqb, Option, Some, None, Result, Ok, Err, ⊤}
use Rattle.chain.specs.Chain.{◌if◌else◌}
use Rattle.chain.specs.After.{After, after}
use Rattle.models.specs.Kinds.{is_control, is_bulk, is_isochronous, is_prepared, is_configured}
use Rattle.models.specs.Refusals.{refusal_of, rejected}
use Rattle.models.specs.Requests.{same_device}
use Rattle.models.specs.declared.{DeviceId.DeviceId, DeviceSnapshot.DeviceSnapshot, OperationError.OperationError, Ports.Ports, Refusal.Refusal, RequestMetadata.RequestMetadata, TransferType.TransferType}
use Rattle.standards.specs.Ports.{port_speed}
use Rattle.standards.specs.Speeds.{low_speed}
use Rattle.bus.specs.Tables.{Bus, device_at, mark_at}
use Rattle.bus.specs.Ports.{fresh_port}
use Rattle.bus.specs.Endpoints.{has_endpoint}
use Rattle.targets.specs.declared.{Readings.Readings}

abbrev pub refused_device : ℕ → Result DeviceSnapshot Refusal
refused_device n = Err (refusal_of n)

-- 27 unknown or stale; 28 not Initialized
unfoldable pub known_by : Option DeviceSnapshot → Bool → DeviceId → Result DeviceSnapshot Refusal
known_by None initialized id = refused_device 27
known_by (Some d) initialized id =
    refused_device 27 if not (same_device d.id id) else
    refused_device 28 if not initialized else
    Ok d

-- 26 raw mark
unfoldable pub known_device : Bool → DeviceId → Bus → Result DeviceSnapshot Refusal
known_device initialized id b = refused_device 26 if mark_at b id.slot else known_by (device_at b id.slot) initialized id

-- 35 not DefaultAddress, Addressed or Configured
unfoldable pub prepared_device : Result ℕ Refusal → DeviceSnapshot → Result DeviceSnapshot Refusal
prepared_device (Err r) d = Err r
prepared_device (Ok raw) d = refused_device 35 if not (is_prepared d.state) else Ok d

-- 29 to 34 and 31 again are the port's; whatever was read stays written
unfoldable pub fresh_device : Option Ports → DeviceSnapshot → Result ℕ OperationError → Bus → After (Result DeviceSnapshot Refusal) Bus
fresh_device ports d reading b =
    after (prepared_device (fresh_port ports d.port reading b).result d) (fresh_port ports d.port reading b).lent

unfoldable pub check_device_by : Result DeviceSnapshot Refusal → Option Ports → Result ℕ OperationError → Bus → After (Result DeviceSnapshot Refusal) Bus
check_device_by (Err r) ports reading b = after (Err r) b
check_device_by (Ok d) ports reading b = fresh_device ports d reading b

unfoldable pub check_device : Bool → Option Ports → DeviceId → Result ℕ OperationError → Bus → After (Result DeviceSnapshot Refusal) Bus
check_device initialized ports id reading b = check_device_by (known_device initialized id b) ports reading b

-- 37U low speed and bulk; 58U low speed and isochronous (document 02, M-110); 38 endpoint and type not placed
unfoldable pub speed_checked : ℕ → ℕ → ℕ → TransferType → Bus → Result ⊤ Refusal
speed_checked raw slot endpoint type b =
    rejected 37 if eqb (port_speed raw) low_speed && is_bulk type else
    rejected 58 if eqb (port_speed raw) low_speed && is_isochronous type else
    rejected 38 if not (has_endpoint slot endpoint type b) else
    (Ok tt)

unfoldable pub endpoint_by : Result ℕ Refusal → RequestMetadata → Bus → Result ⊤ Refusal
endpoint_by (Err r) m b = Err r
endpoint_by (Ok raw) m b = speed_checked raw m.device.slot m.endpoint m.transfer_type b

-- 36 not Configured; the second reading: 33, 34, 31
unfoldable pub check_endpoint : Option Ports → DeviceSnapshot → RequestMetadata → Result ℕ OperationError → Bus → After (Result ⊤ Refusal) Bus
check_endpoint ports d m reading b =
    after (rejected 36) b if not (is_configured d.state) else
    after (endpoint_by (fresh_port ports d.port reading b).result m (fresh_port ports d.port reading b).lent) (fresh_port ports d.port reading b).lent

unfoldable pub check_target_by : Result DeviceSnapshot Refusal → Option Ports → RequestMetadata → Result ℕ OperationError → Bus → After (Result ⊤ Refusal) Bus
check_target_by (Err r) ports m second b = after (Err r) b
check_target_by (Ok d) ports m second b = after (Ok tt) b if is_control m.transfer_type else check_endpoint ports d m second b

-- one reading for control, two otherwise
unfoldable pub check_target : Bool → Option Ports → RequestMetadata → Readings → Bus → After (Result ⊤ Refusal) Bus
check_target initialized ports m x b =
    let device = check_device initialized ports m.device x.first b in
    check_target_by device.result ports m x.second device.lent
