-- What an opening answers, the word of a recovery's kind, and the numbers that the session's calls are refused by, each in the table's
-- order. Assumes nothing.
use Rattle.std.specs.Prelude.{ℕ, ◌+◌, List, [], ◌∷◌, Result, Ok, Err}
use Rattle.words.specs.Words.{flag_word}
use Rattle.models.specs.Said.{Said, said_by}
use Rattle.session.specs.declared.{RecoveryKind.RecoveryKind, Session.Session}
use Rattle.models.specs.declared.{Refusal.Refusal}

-- an opening that passes has no value: the session comes out as it does of every call
abbrev pub opened_said : Result Session Refusal → Said
opened_said = said_by (λ x. [])

-- 0 abort, 1 reset, 2 a reset that preserves the data toggle
abbrev pub recovery_word : RecoveryKind → ℕ
recovery_word RecoveryKind.Abort = 0
recovery_word (RecoveryKind.Reset preserve) = 1 + flag_word preserve

abbrev pub open_numbers : List ℕ
open_numbers = 3 ∷ []

-- set_device and set_reconcile
abbrev pub place_numbers : List ℕ
place_numbers = 1 ∷ 3 ∷ []

abbrev pub set_port_numbers : List ℕ
set_port_numbers = 1 ∷ 3 ∷ 29 ∷ 30 ∷ []

abbrev pub set_endpoints_numbers : List ℕ
set_endpoints_numbers = 1 ∷ 3 ∷ 53 ∷ []

abbrev pub acquire_numbers : List ℕ
acquire_numbers = 1 ∷ 50 ∷ 45 ∷ []

abbrev pub initialize_numbers : List ℕ
initialize_numbers = 1 ∷ 51 ∷ 45 ∷ []

abbrev pub close_numbers : List ℕ
close_numbers = 1 ∷ 3 ∷ 52 ∷ 45 ∷ []
