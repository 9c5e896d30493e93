-- Codes of the fieldless enums, in the order of their declaration. Decoding is total: a code out of range decodes to the last variant.
-- Assumes nothing.
use Rattle.std.specs.Prelude.{ℕ, List, [], ◌∷◌, get_or}
use Rattle.models.specs.declared.{ControlProfile.ControlProfile, ControllerState.ControllerState, DeviceState.DeviceState, Direction.Direction, ErrorCategory.ErrorCategory, TransferType.TransferType}

-- all but the last
abbrev pub categories : List ErrorCategory
categories = ErrorCategory.Validation ∷ ErrorCategory.Unsupported ∷ ErrorCategory.OperatingSystem ∷ ErrorCategory.Controller ∷ ErrorCategory.Timeout ∷ ErrorCategory.Disconnect ∷ []

abbrev pub read_category : ℕ → ErrorCategory
read_category w = get_or categories w ErrorCategory.RecoveryRequired

abbrev pub category_word : ErrorCategory → ℕ
category_word ErrorCategory.Validation = 0
category_word ErrorCategory.Unsupported = 1
category_word ErrorCategory.OperatingSystem = 2
category_word ErrorCategory.Controller = 3
category_word ErrorCategory.Timeout = 4
category_word ErrorCategory.Disconnect = 5
category_word ErrorCategory.RecoveryRequired = 6

-- all but the last
abbrev pub transfers : List TransferType
transfers = TransferType.Control ∷ TransferType.Bulk ∷ TransferType.Interrupt ∷ []

abbrev pub read_transfer : ℕ → TransferType
read_transfer w = get_or transfers w TransferType.Isochronous

abbrev pub transfer_word : TransferType → ℕ
transfer_word TransferType.Control = 0
transfer_word TransferType.Bulk = 1
transfer_word TransferType.Interrupt = 2
transfer_word TransferType.Isochronous = 3

-- all but the last
abbrev pub directions : List Direction
directions = Direction.In ∷ []

abbrev pub read_direction : ℕ → Direction
read_direction w = get_or directions w Direction.Out

abbrev pub direction_word : Direction → ℕ
direction_word Direction.In = 0
direction_word Direction.Out = 1

-- all but the last
abbrev pub profiles : List ControlProfile
profiles = ControlProfile.Compliant ∷ []

abbrev pub read_profile : ℕ → ControlProfile
read_profile w = get_or profiles w ControlProfile.DeviceCompatibility

abbrev pub profile_word : ControlProfile → ℕ
profile_word ControlProfile.Compliant = 0
profile_word ControlProfile.DeviceCompatibility = 1

-- all but the last
abbrev pub device_states : List DeviceState
device_states = DeviceState.Observed ∷ DeviceState.PortReset ∷ DeviceState.SlotEnabled ∷ DeviceState.DefaultAddress ∷ DeviceState.Addressed ∷ DeviceState.Configured ∷ []

abbrev pub read_device_state : ℕ → DeviceState
read_device_state w = get_or device_states w DeviceState.Disconnected

abbrev pub device_state_word : DeviceState → ℕ
device_state_word DeviceState.Observed = 0
device_state_word DeviceState.PortReset = 1
device_state_word DeviceState.SlotEnabled = 2
device_state_word DeviceState.DefaultAddress = 3
device_state_word DeviceState.Addressed = 4
device_state_word DeviceState.Configured = 5
device_state_word DeviceState.Disconnected = 6

-- all but the last
abbrev pub controllers : List ControllerState
controllers = ControllerState.Closed ∷ ControllerState.AcquiredUnknown ∷ ControllerState.Initialized ∷ ControllerState.Closing ∷ []

abbrev pub read_controller : ℕ → ControllerState
read_controller w = get_or controllers w ControllerState.RecoveryRequired

abbrev pub controller_word : ControllerState → ℕ
controller_word ControllerState.Closed = 0
controller_word ControllerState.AcquiredUnknown = 1
controller_word ControllerState.Initialized = 2
controller_word ControllerState.Closing = 3
controller_word ControllerState.RecoveryRequired = 4
