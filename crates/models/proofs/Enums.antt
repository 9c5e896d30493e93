-- A fieldless enum is what its code decodes to. Assumes nothing.
use mathlib.Core.Path.{◌≡◌, refl}
use Rattle.models.specs.Codes.{read_category, category_word, read_transfer, transfer_word, read_direction, direction_word, read_profile, profile_word, read_device_state, device_state_word}
use Rattle.models.specs.declared.{ControlProfile.ControlProfile, DeviceState.DeviceState, Direction.Direction, ErrorCategory.ErrorCategory, TransferType.TransferType}

pub category_back : (x : ErrorCategory) → read_category (category_word x) ≡ x
category_back ErrorCategory.Validation = refl
category_back ErrorCategory.Unsupported = refl
category_back ErrorCategory.OperatingSystem = refl
category_back ErrorCategory.Controller = refl
category_back ErrorCategory.Timeout = refl
category_back ErrorCategory.Disconnect = refl
category_back ErrorCategory.RecoveryRequired = refl

pub transfer_back : (x : TransferType) → read_transfer (transfer_word x) ≡ x
transfer_back TransferType.Control = refl
transfer_back TransferType.Bulk = refl
transfer_back TransferType.Interrupt = refl
transfer_back TransferType.Isochronous = refl

pub direction_back : (x : Direction) → read_direction (direction_word x) ≡ x
direction_back Direction.In = refl
direction_back Direction.Out = refl

pub profile_back : (x : ControlProfile) → read_profile (profile_word x) ≡ x
profile_back ControlProfile.Compliant = refl
profile_back ControlProfile.DeviceCompatibility = refl

pub device_state_back : (x : DeviceState) → read_device_state (device_state_word x) ≡ x
device_state_back DeviceState.Observed = refl
device_state_back DeviceState.PortReset = refl
device_state_back DeviceState.SlotEnabled = refl
device_state_back DeviceState.DefaultAddress = refl
device_state_back DeviceState.Addressed = refl
device_state_back DeviceState.Configured = refl
device_state_back DeviceState.Disconnected = refl
