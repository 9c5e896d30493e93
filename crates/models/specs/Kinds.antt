-- Tests on the fieldless enums. Assumes nothing.
use Rattle.std.specs.Prelude.{Bool, true, false}
use Rattle.models.specs.declared.{DeviceState.DeviceState, Direction.Direction, TransferType.TransferType}

abbrev pub is_in : Direction → Bool
is_in Direction.In = true
is_in Direction.Out = false

abbrev pub is_control : TransferType → Bool
is_control TransferType.Control = true
is_control TransferType.Bulk = false
is_control TransferType.Interrupt = false
is_control TransferType.Isochronous = false

abbrev pub is_bulk : TransferType → Bool
is_bulk TransferType.Control = false
is_bulk TransferType.Bulk = true
is_bulk TransferType.Interrupt = false
is_bulk TransferType.Isochronous = false

abbrev pub is_isochronous : TransferType → Bool
is_isochronous TransferType.Control = false
is_isochronous TransferType.Bulk = false
is_isochronous TransferType.Interrupt = false
is_isochronous TransferType.Isochronous = true

-- DefaultAddress, Addressed or Configured
abbrev pub is_prepared : DeviceState → Bool
is_prepared DeviceState.Observed = false
is_prepared DeviceState.PortReset = false
is_prepared DeviceState.SlotEnabled = false
is_prepared DeviceState.DefaultAddress = true
is_prepared DeviceState.Addressed = true
is_prepared DeviceState.Configured = true
is_prepared DeviceState.Disconnected = false

abbrev pub is_configured : DeviceState → Bool
is_configured DeviceState.Observed = false
is_configured DeviceState.PortReset = false
is_configured DeviceState.SlotEnabled = false
is_configured DeviceState.DefaultAddress = false
is_configured DeviceState.Addressed = false
is_configured DeviceState.Configured = true
is_configured DeviceState.Disconnected = false
