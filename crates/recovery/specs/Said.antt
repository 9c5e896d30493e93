-- What a recovery's start and its reply answer, and the numbers that they are refused by, in the table's order. Their lists stand beside
-- the answer. Assumes nothing.
use Rattle.std.specs.Prelude.{ℕ, List, [], ◌∷◌, ◌++◌, Result, Ok, Err}
use Rattle.words.specs.Words.{flag_word}
use Rattle.models.specs.Said.{Said, said_by}
use Rattle.models.specs.Values.{request_id_words, device_id_words, option_error_words}
use Rattle.session.specs.Said.{recovery_word}
use Rattle.session.specs.declared.{Recovery.Recovery}
use Rattle.recovery.specs.declared.{AbortReport.AbortReport}
use Rattle.models.specs.declared.{Refusal.Refusal}

-- target, device, endpoint, and what the backend is to do
abbrev pub recovering_values : Recovery → List ℕ
recovering_values x = request_id_words x.target ++ device_id_words x.device ++ x.endpoint ∷ recovery_word x.kind ∷ []

abbrev pub begin_said : Result Recovery Refusal → Said
begin_said = said_by recovering_values

-- target, device, endpoint, how many completed, how many aborted, ready, error
abbrev pub recovered_values : AbortReport → List ℕ
recovered_values x =
    request_id_words x.target ++ device_id_words x.device
    ++ x.endpoint ∷ x.completed ∷ x.aborted ∷ flag_word x.restart_ready ∷ option_error_words x.error

abbrev pub recovery_said : Result AbortReport Refusal → Said
recovery_said = said_by recovered_values

abbrev pub recover_numbers : List ℕ
recover_numbers = 1 ∷ 3 ∷ 40 ∷ 43 ∷ 44 ∷ []

-- of an entry; 43 is the ledger's, of an abort of a row that is not held: no calls lead to one
abbrev pub entry_numbers : List ℕ
entry_numbers = 47 ∷ 48 ∷ 41 ∷ 43 ∷ []

abbrev pub recovery_reply_numbers : List ℕ
recovery_reply_numbers = 2 ∷ 3 ∷ 49 ∷ 45 ∷ 46 ∷ entry_numbers
