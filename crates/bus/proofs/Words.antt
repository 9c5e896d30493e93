-- The words of a device row and of an endpoint. Assumes nothing.
use Rattle.std.specs.Prelude.{Some}
use Prim.Native.Nat.{ℕ, ◌<◌}
use mathlib.Core.Path.{◌≡◌}
use mathlib.Core.List.{List, [], ◌∷◌}
use native.Mathlib.Omega.{arith}
use Rattle.words.proofs.Options.{low}
use Rattle.models.specs.Codes.{read_device_state, device_state_word, transfer_word}
use Rattle.models.specs.declared.{DeviceSnapshot.DeviceSnapshot, TransferType.TransferType}
use Rattle.models.specs.declared.TransferType.TheVariants.{Control, Bulk, Interrupt, Isochronous}
use Rattle.bus.specs.Layout.{read_device, device_record}

-- a device's record, with w for its state
abbrev record_with : DeviceSnapshot → ℕ → List ℕ
record_with d w = 1 ∷ d.id.session ∷ d.id.generation ∷ d.id.slot ∷ d.port.session ∷ d.port.generation ∷ d.port.number ∷ w ∷ []

pub device_encoded : (d : DeviceSnapshot) (w : ℕ) → d.id.slot < 256 → d.port.number < 256 → read_device_state w ≡ d.state → w ≡ device_state_word d.state
    → (read_device (record_with d w) ≡ Some d) × (record_with d w ≡ device_record d)
unfolding read_device device_record
device_encoded d w h g e f = (rw (low 8 h, low 8 g, e), rw f)

type_small : (t : TransferType) → transfer_word t < 4
type_small Control = omega arith
type_small Bulk = omega arith
type_small Interrupt = omega arith
type_small Isochronous = omega arith

pub word_small : (t : TransferType) (w : ℕ) → w ≡ transfer_word t → w < 4
word_small t w e = rw e (type_small t)
