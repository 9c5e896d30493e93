-- What the checks of a request, a plan and a completion answer, and the numbers of their places in the table. Assumes nothing.
use Rattle.std.specs.Prelude.{ℕ, List, [], ◌∷◌, Option, Result, Ok, Err}
use Rattle.words.specs.Words.{flag_word}
use Rattle.models.specs.Codes.{direction_word, profile_word}
use Rattle.models.specs.Refusals.{refusal_of, invalid_completion}
use Rattle.models.specs.Said.{Said, says, refused, said_by}
use Rattle.models.specs.Values.{metadata_tail}
use Rattle.standards.specs.Setup.{packet_of, setup_bytes}
use Rattle.checks.specs.declared.{completion.CompletionFault.CompletionFault, completion.ValidCompletion.ValidCompletion, plan.ValidatedControlPlan.ValidatedControlPlan}
use Rattle.models.specs.declared.{Refusal.Refusal, RequestMetadata.RequestMetadata}

abbrev pub prepared_said : Result RequestMetadata Refusal → Said
prepared_said = said_by (λ m. metadata_tail m [])

-- has data, its direction, the status stage's, profile
abbrev pub stage_tail : ValidatedControlPlan → List ℕ → List ℕ
stage_tail p rest =
    flag_word p.has_data ∷ direction_word p.data_direction ∷ direction_word p.status_direction ∷ profile_word p.profile ∷ rest

-- the eight SETUP bytes stand last, a word each
abbrev pub validated_words : ValidatedControlPlan → List ℕ
validated_words p = metadata_tail p.metadata (stage_tail p (setup_bytes (packet_of p.metadata.setup)))

abbrev pub planned_said : Result ValidatedControlPlan Refusal → Said
planned_said = said_by validated_words

-- of a completion with this code: the length and the code, 47, or 48 with the code
abbrev pub test_said : Option ℕ → Result ValidCompletion CompletionFault → Said
test_said code (Ok v) = says (v.actual_length ∷ v.completion_code ∷ [])
test_said code (Err CompletionFault.MissingLength) = refused (refusal_of 47)
test_said code (Err CompletionFault.Invalid) = refused (invalid_completion code)

abbrev pub packets_numbers : List ℕ
packets_numbers = 4 ∷ []

abbrev pub prepare_numbers : List ℕ
prepare_numbers = 6 ∷ 7 ∷ 8 ∷ 9 ∷ 10 ∷ 11 ∷ 12 ∷ 13 ∷ 14 ∷ 15 ∷ 16 ∷ 17 ∷ []

abbrev pub plan_numbers : List ℕ
plan_numbers = 18 ∷ 19 ∷ 20 ∷ 6 ∷ 7 ∷ 21 ∷ 22 ∷ 23 ∷ 24 ∷ 25 ∷ []

abbrev pub completion_numbers : List ℕ
completion_numbers = 47 ∷ 48 ∷ []
