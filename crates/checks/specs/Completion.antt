-- The test of a completion (document 01, "Request row" and 47, 48 of its table). Assumes nothing.
use Rattle.std.specs.Prelude.{ℕ, Bool, true, false, not, ◌||◌, eqb, ltb, Option, Some, None, Result, Ok, Err}
use Rattle.chain.specs.Chain.{◌if◌else◌}
use Rattle.models.specs.declared.{BackendCompletion.BackendCompletion, OperationError.OperationError}
use Rattle.standards.specs.Completion.{is_finished}
use Rattle.checks.specs.declared.{completion.CompletionFault.CompletionFault, completion.ValidCompletion.ValidCompletion}

abbrev pub has_error : Option OperationError → Bool
has_error None = false
has_error (Some e) = true

-- the code is there, and 1 or 13
unfoldable pub code_tested : Option ℕ → ℕ → Result ValidCompletion CompletionFault
code_tested None actual = (Err CompletionFault.Invalid)
code_tested (Some code) actual = (Err CompletionFault.Invalid) if not (is_finished code) else Ok (record { actual_length = actual; completion_code = code })

-- quiescent, without an error, at most as long as requested, with data of just that length
unfoldable pub test_code : BackendCompletion → ℕ → ℕ → ℕ → Result ValidCompletion CompletionFault
test_code c actual given requested =
    (Err CompletionFault.Invalid) if not c.quiescent || has_error c.error || ltb requested actual else
    (Err CompletionFault.Invalid) if not c.has_data || not (eqb given actual) else
    code_tested c.completion_code actual

unfoldable pub test_length : Option ℕ → BackendCompletion → ℕ → ℕ → Result ValidCompletion CompletionFault
test_length None c given requested = (Err CompletionFault.MissingLength)
test_length (Some actual) c given requested = test_code c actual given requested

unfoldable pub test_completion : BackendCompletion → ℕ → ℕ → Result ValidCompletion CompletionFault
test_completion c given requested = test_length c.actual_length c given requested
