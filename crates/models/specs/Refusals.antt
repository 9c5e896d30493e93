-- Refusals: a number of document 01's table and its error. Assumes nothing.
use Rattle.std.specs.Prelude.{ℕ, Bool, ◌||◌, eqb, Option, None, Result, Ok, Err, ⊤}
use Rattle.chain.specs.Chain.{◌if◌else◌}
use Rattle.models.specs.declared.{ErrorCategory.ErrorCategory, OperationError.OperationError, Refusal.Refusal}
use Rattle.models.specs.declared.ErrorCategory.TheVariants.{Validation, Unsupported, RecoveryRequired}

-- an error whose message is the number n
abbrev pub own_error : ErrorCategory → ℕ → Option ℕ → OperationError
own_error c n code = record { category = c; message = n; os_code = None; completion_code = code }

-- 33 and 45 carry the backend's error
abbrev pub from_backend : ℕ → OperationError → Refusal
from_backend n e = record { number = n; error = e }

-- the numbers with a U in the table, and document 02's 58
abbrev pub is_unsupported : ℕ → Bool
is_unsupported n = eqb n 6 || eqb n 11 || eqb n 13 || eqb n 14 || eqb n 18 || eqb n 19 || eqb n 20 || eqb n 21 || eqb n 37 || eqb n 58

-- the category that the table gives a number; 33 and 45 have the backend's instead
unfoldable pub table_category : ℕ → ErrorCategory
table_category n =
    Unsupported if is_unsupported n else
    RecoveryRequired if eqb n 48 else
    Validation

-- a refusal of our own, by its number
abbrev pub refusal_of : ℕ → Refusal
refusal_of n = from_backend n (own_error (table_category n) n None)

-- what a check answers that refuses nothing
abbrev pub pass : Result ⊤ Refusal
pass = Ok tt

abbrev pub rejected : ℕ → Result ⊤ Refusal
rejected n = Err (refusal_of n)

-- 48 has the completion's code
abbrev pub invalid_completion : Option ℕ → Refusal
invalid_completion code = from_backend 48 (own_error (table_category 48) 48 code)
