-- What reports, tallies and changes answer, and the numbers that they are refused by. Assumes nothing.
use Rattle.std.specs.Prelude.{ℕ, List, [], ◌∷◌, Result, Ok, Err, Option, Some, None}
use Rattle.models.specs.Said.{Said, says, said_by}
use Rattle.rows.specs.Values.{report_values}
use Rattle.reports.specs.declared.{Part.Part}
use Rattle.models.specs.declared.{Refusal.Refusal, RequestReport.RequestReport}

abbrev pub report_said : Result RequestReport Refusal → Said
report_said = said_by report_values

-- where the reports end there is no value
abbrev pub next_values : Option RequestReport → List ℕ
next_values None = []
next_values (Some x) = report_values x

abbrev pub next_said : Result (Option RequestReport) Refusal → Said
next_said = said_by next_values

abbrev pub tally_said : Result ℕ Refusal → Said
tally_said = said_by (λ n. n ∷ [])

abbrev pub part_values : Part → List ℕ
part_values p = p.start ∷ p.length ∷ []

abbrev pub part_said : Result Part Refusal → Said
part_said = said_by part_values

-- a report by id, and completed bytes
abbrev pub status_numbers : List ℕ
status_numbers = 3 ∷ 40 ∷ []

-- reports by ascending id, their number, and the tallies
abbrev pub tally_numbers : List ℕ
tally_numbers = 3 ∷ []

-- logical_cancel_request and timeout_request
abbrev pub cancel_numbers : List ℕ
cancel_numbers = 1 ∷ 3 ∷ 40 ∷ 41 ∷ []

-- withdraw_cancel_request
abbrev pub withdraw_numbers : List ℕ
withdraw_numbers = 1 ∷ 3 ∷ 40 ∷ 41 ∷ 59 ∷ []

abbrev pub reclaim_numbers : List ℕ
reclaim_numbers = 1 ∷ 3 ∷ 40 ∷ 42 ∷ []
