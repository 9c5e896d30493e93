-- The backend's reply to a poll (document 01, "Request row"). Assumes nothing.
use Rattle.std.specs.Prelude.{ℕ, Bool, true, false, not, ◌&&◌, List, length, Option, Some, None, Result, Ok, Err}
use Rattle.chain.specs.Chain.{◌if◌else◌}
use Rattle.chain.specs.After.{After, after}
use Rattle.chain.specs.Lists.{found_in}
use Rattle.models.specs.Refusals.{refusal_of, from_backend, invalid_completion}
use Rattle.models.specs.declared.{BackendCompletion.BackendCompletion, ErrorCategory.ErrorCategory, OperationError.OperationError, Refusal.Refusal, RequestId.RequestId, RequestMetadata.RequestMetadata, RequestReport.RequestReport}
use Rattle.standards.specs.Completion.{is_stall}
use Rattle.rows.specs.Table.{row_in}
use Rattle.rows.specs.Store.{Store}
use Rattle.rows.specs.declared.{Row.Row}
use Rattle.rules.specs.Rules.{report_of}
use Rattle.rules.specs.declared.{Change.Change}
use Rattle.ledger.specs.Apply.{changed_at}
use Rattle.ledger.specs.Search.{is_at}
use Rattle.checks.specs.Completion.{test_completion}
use Rattle.session.specs.Session.{marked, with_flight, with_stall}
use Rattle.session.specs.Sizes.{data_at}
use Rattle.session.specs.Lent.{Memory, memory, memory_fits}
use Rattle.session.specs.declared.{Called.Called, InFlight.InFlight, RecoverableStall.RecoverableStall, Session.Session, Size.Size}
use Rattle.reports.specs.Answers.{effect}
use Rattle.polls.specs.declared.{poll_reply.Judgement.Judgement}
use Rattle.checks.specs.declared.{completion.CompletionFault.CompletionFault, completion.ValidCompletion.ValidCompletion}
use Rattle.session.specs.Called.{call_refused}

abbrev pub is_recovery : ErrorCategory → Bool
is_recovery ErrorCategory.Validation = false
is_recovery ErrorCategory.Unsupported = false
is_recovery ErrorCategory.OperatingSystem = false
is_recovery ErrorCategory.Controller = false
is_recovery ErrorCategory.Timeout = false
is_recovery ErrorCategory.Disconnect = false
is_recovery ErrorCategory.RecoveryRequired = true

abbrev pub code_is_stall : Option ℕ → Bool
code_is_stall None = false
code_is_stall (Some code) = is_stall code

-- both codes are 6 and the category is RecoveryRequired
abbrev pub is_scoped_stall : BackendCompletion → OperationError → Bool
is_scoped_stall c e = code_is_stall c.completion_code && code_is_stall e.completion_code && is_recovery e.category

-- document 01's stall note: revision, device, endpoint; none where the revision is
unfoldable pub stall_of : Option ℕ → RequestMetadata → Bool → Option RecoverableStall
stall_of None m scoped = None
stall_of (Some revision) m scoped =
    None if not scoped else
    Some (record { revision = revision; device = m.device; endpoint = m.endpoint })

-- with an error: Failed; if not quiescent, a mark, and the stall note is kept (with the raised revision) or dropped
unfoldable pub failed_as : Session → Row → BackendCompletion → OperationError → Judgement
failed_as s row c e =
    record { change = Change.Fail e c.completion_code c.quiescent; session = s; stored = false } if c.quiescent else
    record {
      change = Change.Fail e c.completion_code c.quiescent;
      session = with_stall (marked s) (stall_of (marked s).recovery_revision row.metadata (is_scoped_stall c e));
      stored = false;
    }

-- not valid: Failed, not quiescent, message 48 with the completion's code, a mark, the stall note untouched
unfoldable pub invalid_as : Session → BackendCompletion → Judgement
invalid_as s c = record {
  change = Change.Fail (invalid_completion c.completion_code).error c.completion_code false;
  session = marked s;
  stored = false;
}

unfoldable pub judged_test : Result ValidCompletion CompletionFault → Session → BackendCompletion → Judgement
judged_test (Ok v) s c = record { change = Change.Complete v.actual_length v.completion_code; session = s; stored = true }
judged_test (Err f) s c = invalid_as s c

unfoldable pub judged_by : Option OperationError → Session → Row → BackendCompletion → ℕ → Judgement
judged_by (Some e) s row c given = failed_as s row c e
judged_by None s row c given = judged_test (test_completion c given row.metadata.requested_length) s c

unfoldable pub judged : Session → Row → BackendCompletion → ℕ → Judgement
judged s row c given = judged_by c.error s row c given

-- only a valid completion's data is stored
unfoldable pub stored_in : Size → ℕ → List ℕ → Bool → List ℕ → List ℕ
stored_in z i bytes stored area = data_at z i bytes area if stored else area

-- row i took the change; one that is not Pending, which no call leads to, is 41 and nothing else happens
unfoldable pub settled : After (Result RequestReport Refusal) Store → Judgement → ℕ → List ℕ → Session → List ℕ → After (Called RequestReport) Memory
settled o j i bytes idle area =
    elim o.result [
      | Err r ↦ after (call_refused idle r) (memory o.lent area)
      | Ok x ↦
          after (record { answer = Ok x; session = j.session }) (memory o.lent (stored_in idle.size i bytes j.stored area))
    ]

-- by the reply to a poll of row i; `idle` is the session without the poll. 45: a backend's error leaves the row Pending
unfoldable pub poll_reply_at : Result (Option BackendCompletion) OperationError → ℕ → List ℕ → Session → Memory → After (Called RequestReport) Memory
poll_reply_at (Ok None) i bytes idle m = after (record { answer = Ok (report_of (row_in m.store.rows i)); session = idle }) m
poll_reply_at (Err e) i bytes idle m = after (call_refused (effect e idle) (from_backend 45 e)) m
poll_reply_at (Ok (Some c)) i bytes idle m =
    let j = judged idle (row_in m.store.rows i) c (length bytes) in settled (changed_at i j.change m.store) j i bytes idle m.area

-- 2: no row has the id
unfoldable pub poll_reply_by : Option ℕ → Result (Option BackendCompletion) OperationError → List ℕ → Session → Memory → After (Called RequestReport) Memory
poll_reply_by None x bytes s m = after (call_refused s (refusal_of 2)) m
poll_reply_by (Some i) x bytes s m = poll_reply_at x i bytes (with_flight s InFlight.Nothing) m

-- 3
unfoldable pub poll_reply_found : RequestId → Result (Option BackendCompletion) OperationError → List ℕ → Session → Memory → After (Called RequestReport) Memory
poll_reply_found id x bytes s m =
    after (call_refused s (refusal_of 3)) m if not (memory_fits s.size m) else
    poll_reply_by (found_in (is_at id) m.store.rows) x bytes s m

-- 2: its kind is not in flight
unfoldable pub poll_reply_in : InFlight → Result (Option BackendCompletion) OperationError → List ℕ → Session → Memory → After (Called RequestReport) Memory
poll_reply_in InFlight.Nothing x bytes s m = after (call_refused s (refusal_of 2)) m
poll_reply_in (InFlight.Submission id) x bytes s m = after (call_refused s (refusal_of 2)) m
poll_reply_in (InFlight.Recovery r) x bytes s m = after (call_refused s (refusal_of 2)) m
poll_reply_in (InFlight.Poll id) x bytes s m = poll_reply_found id x bytes s m

unfoldable pub poll_reply_of : Result (Option BackendCompletion) OperationError → List ℕ → Session → Memory → After (Called RequestReport) Memory
poll_reply_of x bytes s m = poll_reply_in s.in_flight x bytes s m
