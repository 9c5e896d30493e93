-- What the rules of a row answer, and the numbers that each change is refused by. Assumes nothing.
use Rattle.std.specs.Prelude.{ℕ, List, [], ◌∷◌, Result, Ok, Err}
use Rattle.models.specs.Said.{Said, said_by}
use Rattle.rows.specs.Values.{report_values}
use Rattle.rules.specs.declared.{Change.Change, Step.Step}
use Rattle.models.specs.declared.{Refusal.Refusal}

-- the new row goes to the store; the answer is its report
abbrev pub step_said : Result Step Refusal → Said
step_said = said_by (λ n. report_values n.report)

abbrev pub spent_said : Result ℕ Refusal → Said
spent_said = said_by (λ n. n ∷ [])

abbrev pub spend_numbers : List ℕ
spend_numbers = 39 ∷ []

-- the place ledger of the table, past 40; 43 is that of an abort, 59 of a withdrawal
abbrev pub change_numbers : Change → List ℕ
change_numbers (Change.Accept token) = []
change_numbers Change.Discard = []
change_numbers Change.LogicalCancel = 41 ∷ []
change_numbers Change.Timeout = 41 ∷ []
change_numbers (Change.Complete actual code) = 41 ∷ []
change_numbers (Change.Fail error code quiescent) = 41 ∷ []
change_numbers Change.ConfirmAbort = 43 ∷ []
change_numbers Change.Reclaim = 42 ∷ []
change_numbers Change.WithdrawCancel = 41 ∷ 59 ∷ []
