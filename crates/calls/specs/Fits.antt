-- Whether each number of a value is in the range of its type. Assumes nothing.
use Rattle.std.specs.Prelude.{ℕ, ◌<◌, ◌^◌, true, ◌≡◌, Option, Some, None}
use Rattle.words.specs.Words.{is_signed}
use Rattle.models.specs.declared.{DeviceId.DeviceId, OperationError.OperationError, SetupPacket.SetupPacket}

abbrev pub U32Fits : Option ℕ → Type 0
U32Fits None = Unit {0}
U32Fits (Some v) = v < 2 ^ 32

abbrev pub ErrorFits : OperationError → Type 0
ErrorFits e = (e.message < 2 ^ 16) × (is_signed e.os_code ≡ true) × U32Fits e.completion_code

abbrev pub OptionErrorFits : Option OperationError → Type 0
OptionErrorFits None = Unit {0}
OptionErrorFits (Some e) = ErrorFits e

abbrev pub DeviceFits : DeviceId → Type 0
DeviceFits d = d.slot < 2 ^ 8

abbrev pub PacketFits : SetupPacket → Type 0
PacketFits p =
    (p.request_type < 2 ^ 8) × (p.request < 2 ^ 8) × (p.value < 2 ^ 16) × (p.index < 2 ^ 16) × (p.length < 2 ^ 16)

abbrev pub SetupFits : Option SetupPacket → Type 0
SetupFits None = Unit {0}
SetupFits (Some p) = PacketFits p
