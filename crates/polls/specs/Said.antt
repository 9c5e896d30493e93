-- What a poll answers, and the numbers that it and its reply are refused by. Assumes nothing.
use Rattle.std.specs.Prelude.{ℕ, List, [], ◌∷◌, Result, Ok, Err}
use Rattle.models.specs.Said.{Said, says, refused}
use Rattle.rows.specs.Values.{report_values}
use Rattle.polls.specs.declared.{PollAnswer.PollAnswer}
use Rattle.models.specs.declared.{Refusal.Refusal}

abbrev pub poll_said : Result PollAnswer Refusal → Said
poll_said (Err r) = refused r
poll_said (Ok (PollAnswer.Report x)) = says (report_values x)
poll_said (Ok (PollAnswer.Asked token)) = says (token ∷ [])

abbrev pub poll_numbers : List ℕ
poll_numbers = 1 ∷ 3 ∷ 40 ∷ 28 ∷ []

-- 41 is the ledger's, of a polled row that is not Pending: no calls lead to one
abbrev pub poll_reply_numbers : List ℕ
poll_reply_numbers = 2 ∷ 3 ∷ 45 ∷ 41 ∷ []
