-- What the checks of a port answer. Assumes nothing.
use Rattle.std.specs.Prelude.{ℕ, List, [], ◌∷◌, Result, Ok, Err}
use Rattle.models.specs.Said.{Said, said_by}
use Rattle.bus.specs.Layout.{port_record}
use Rattle.models.specs.declared.{Refusal.Refusal}
use Rattle.bus.specs.declared.{PortRow.PortRow}

abbrev pub port_said : Result ℕ Refusal → Said
port_said = said_by (λ raw. raw ∷ [])

-- the row as it is then
abbrev pub observed_said : Result PortRow Refusal → Said
observed_said = said_by port_record

-- a port row that is placed, and an endpoint list
abbrev pub placed_port_numbers : List ℕ
placed_port_numbers = 29 ∷ 30 ∷ []

abbrev pub placed_list_numbers : List ℕ
placed_list_numbers = 53 ∷ []

-- a port with a fresh reading
abbrev pub fresh_port_numbers : List ℕ
fresh_port_numbers = 29 ∷ 30 ∷ 31 ∷ 32 ∷ 33 ∷ 34 ∷ []
