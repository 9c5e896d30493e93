-- What a submission answers, and the numbers that it and its reply are refused by, in the table's order. Assumes nothing.
use Rattle.std.specs.Prelude.{ℕ, List, [], ◌∷◌, ◌++◌, Result, Ok, Err}
use Rattle.words.specs.Words.{flag_word}
use Rattle.models.specs.Said.{Said, said_by}
use Rattle.models.specs.Values.{request_id_words, metadata_tail}
use Rattle.checks.specs.Said.{validated_words, packets_numbers, prepare_numbers, plan_numbers}
use Rattle.targets.specs.Said.{device_numbers, target_numbers}
use Rattle.submissions.specs.declared.{PlanSubmission.PlanSubmission, Submission.Submission, begin.Start.Start}
use Rattle.models.specs.declared.{Refusal.Refusal}

abbrev pub start_said : Result Start Refusal → Said
start_said = said_by (λ x. request_id_words x.id ++ x.row ∷ [])

-- id, row, metadata, whether packets were given
abbrev pub begun_values : Submission → List ℕ
begun_values x = request_id_words x.id ++ x.row ∷ metadata_tail x.metadata (flag_word x.has_packets ∷ [])

abbrev pub submit_said : Result Submission Refusal → Said
submit_said = said_by begun_values

-- id, row, the validated plan
abbrev pub plan_values : PlanSubmission → List ℕ
plan_values x = request_id_words x.id ++ x.row ∷ validated_words x.plan

abbrev pub plan_said : Result PlanSubmission Refusal → Said
plan_said = said_by plan_values

-- of an admission
abbrev pub admit_numbers : List ℕ
admit_numbers = 1 ∷ 3 ∷ packets_numbers ++ 5 ∷ prepare_numbers

abbrev pub admit_plan_numbers : List ℕ
admit_plan_numbers = 1 ∷ 3 ∷ 5 ∷ plan_numbers

-- of the admission of a request or of a plan
abbrev pub early_numbers : List ℕ
early_numbers = admit_numbers ++ admit_plan_numbers

abbrev pub submit_numbers : List ℕ
submit_numbers = admit_numbers ++ target_numbers ++ 39 ∷ []

-- a plan is control
abbrev pub submit_plan_numbers : List ℕ
submit_plan_numbers = admit_plan_numbers ++ device_numbers ++ 39 ∷ []

abbrev pub submit_reply_numbers : List ℕ
submit_reply_numbers = 2 ∷ 3 ∷ 45 ∷ []
