-- What the checks of a device answer, and the numbers of the places device and not control in the table. Assumes nothing.
use Rattle.std.specs.Prelude.{ℕ, List, [], ◌∷◌, ◌++◌, Result, Ok, Err}
use Rattle.models.specs.Said.{Said, said_by}
use Rattle.models.specs.Values.{snapshot_words}
use Rattle.models.specs.declared.{DeviceSnapshot.DeviceSnapshot, Refusal.Refusal}

abbrev pub device_said : Result DeviceSnapshot Refusal → Said
device_said = said_by snapshot_words

abbrev pub device_numbers : List ℕ
device_numbers = 26 ∷ 27 ∷ 28 ∷ 29 ∷ 30 ∷ 31 ∷ 32 ∷ 33 ∷ 34 ∷ 35 ∷ []

-- and those of not control, whose second reading has some of the first's
abbrev pub target_numbers : List ℕ
target_numbers = device_numbers ++ 36 ∷ 37 ∷ 58 ∷ 38 ∷ []
