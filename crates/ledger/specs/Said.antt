-- What a change of the row of an id answers, and the numbers that it is refused by. Assumes nothing.
use Rattle.std.specs.Prelude.{ℕ, List, ◌∷◌, Result, Ok, Err}
use Rattle.models.specs.Said.{Said, said_by}
use Rattle.rows.specs.Values.{report_values}
use Rattle.rules.specs.Said.{change_numbers}
use Rattle.rules.specs.declared.{Change.Change}
use Rattle.models.specs.declared.{Refusal.Refusal, RequestReport.RequestReport}

abbrev pub applied_said : Result RequestReport Refusal → Said
applied_said = said_by report_values

abbrev pub apply_numbers : Change → List ℕ
apply_numbers c = 40 ∷ change_numbers c
