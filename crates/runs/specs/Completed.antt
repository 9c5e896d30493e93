-- What a completion that a recovery's reply brings makes of a row. Assumes nothing.
use Rattle.std.specs.Prelude.{ℕ, Option, Some, None}
use Rattle.rows.specs.InPlace.{completed_row}
use Rattle.rows.specs.declared.{Row.Row}
use Rattle.scope.specs.Returned.{Returned}

-- the length and the code of a completion; one that lacks either is refused
abbrev pub length_in : Option ℕ → ℕ
length_in None = 0
length_in (Some n) = n

abbrev pub code_in : Option ℕ → ℕ
code_in None = 0
code_in (Some n) = n

-- the row with both
abbrev pub completed_as : Returned → Row → Row
completed_as c r = completed_row r (length_in c.brought.completion.actual_length) (code_in c.brought.completion.completion_code)
