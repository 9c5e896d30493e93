-- What the replies to a poll and to a submission leave in words, by the definitions of the plain calls. Assumes nothing.
use Rattle.std.specs.Prelude.{ℕ, true, not, List, Option, Some, None, Result, Ok, Err}
use Rattle.chain.specs.After.{After, after}
use Rattle.chain.specs.Chain.{◌if◌else◌}
use Rattle.chain.specs.Lists.{found_in}
use Rattle.models.specs.Refusals.{refusal_of}
use Rattle.models.specs.declared.{BackendCompletion.BackendCompletion, OperationError.OperationError, Refusal.Refusal, RequestReport.RequestReport}
use Rattle.models.specs.declared.RequestState.TheVariants.{Failed}
use Rattle.rows.specs.Table.{report_of, with_state}
use Rattle.rows.specs.declared.{Row.Row}
use Rattle.ledger.specs.Search.{is_at}
use Rattle.checks.specs.Completion.{test_completion}
use Rattle.session.specs.Lent.{Memory, memory_fits}
use Rattle.session.specs.Session.{with_flight}
use Rattle.session.specs.declared.{Called.Called, InFlight.InFlight, Session.Session}
use Rattle.session_words.specs.State.{Kept, kept_of, kept_as}
use Rattle.calls.specs.Answers.{of_report}
use Rattle.direct.specs.Direct.{told}
use Rattle.direct.specs.declared.{replies.Ending.Ending}
use Rattle.checks.specs.declared.{completion.CompletionFault.CompletionFault, completion.ValidCompletion.ValidCompletion}

-- the answer's words and the session at the call's end
abbrev pub told_of : List ℕ → List ℕ → After (List ℕ) Kept
told_of session out = after out (kept_of session)

-- the answer and the session of a reply, in the session's words w
abbrev pub reported_out : Called RequestReport → List ℕ → List ℕ → After (List ℕ) Kept
reported_out x w out = after (told (of_report x.answer) out) (kept_as w x.session)

-- with what the reply leaves beside them
abbrev pub replied_told : {M : Type 0} → After (Called RequestReport) M → List ℕ → List ℕ → After (After (List ℕ) Kept) M
replied_told o w out = after (reported_out o.result w out) o.lent

-- the operation ends with a row's report
abbrev pub reported_row : Row → Session → Called RequestReport
reported_row row s = record { answer = Ok (report_of row); session = with_flight s InFlight.Nothing }

-- a row that failed and is quiescent
abbrev pub failed_row : Row → OperationError → Option ℕ → Row
failed_row r error code = with_state r (Failed error code true)

-- where the row of the poll in flight stands. 2: no poll is in flight; 3; 2: no row has its id
abbrev pub placed_found : Option ℕ → Result ℕ Refusal
placed_found None = Err (refusal_of 2)
placed_found (Some i) = Ok i

unfoldable pub polled_in : InFlight → Session → Memory → Result ℕ Refusal
polled_in InFlight.Nothing s m = Err (refusal_of 2)
polled_in (InFlight.Submission id) s m = Err (refusal_of 2)
polled_in (InFlight.Recovery x) s m = Err (refusal_of 2)
polled_in (InFlight.Poll id) s m =
    Err (refusal_of 3) if not (memory_fits s.size m) else placed_found (found_in (is_at id) m.store.rows)

abbrev pub polled_at : Session → Memory → Result ℕ Refusal
polled_at s m = polled_in s.in_flight s m

-- what a completion does to a Pending row, where it marks nothing
unfoldable pub ending_test : Result ValidCompletion CompletionFault → Ending
ending_test (Ok v) = Ending.Completed v.actual_length v.completion_code
ending_test (Err f) = Ending.ByValue

unfoldable pub ending_by : Option OperationError → BackendCompletion → ℕ → ℕ → Ending
ending_by (Some e) c given requested = Ending.ByValue if not c.quiescent else Ending.Failed e c.completion_code
ending_by None c given requested = ending_test (test_completion c given requested)

abbrev pub ending_of : BackendCompletion → ℕ → ℕ → Ending
ending_of c given requested = ending_by c.error c given requested
