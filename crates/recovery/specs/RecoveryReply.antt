-- The backend's reply to a recovery (document 01, "Abort report", and the place replies). Assumes nothing.
use Rattle.std.specs.Prelude.{ℕ, Bool, false, not, ◌&&◌, List, ◌++◌, map, eqb, length, replicate, Option, Some, None, Result, Ok, Err, ⊤}
use Rattle.chain.specs.After.{After, after}
use Rattle.chain.specs.Chain.{◌if◌else◌}
use Rattle.chain.specs.Lists.{any_in, listed}
use Rattle.models.specs.Refusals.{refusal_of, from_backend}
use Rattle.models.specs.Requests.{same_device}
use Rattle.models.specs.declared.ControllerState.TheVariants.{Initialized}
use Rattle.models.specs.declared.{OperationError.OperationError, Refusal.Refusal}
use Rattle.rows.specs.Table.{is_uncertain}
use Rattle.rows.specs.declared.{Row.Row}
use Rattle.checks.specs.Completion.{has_error}
use Rattle.session.specs.Lent.{Memory, memory_fits}
use Rattle.session.specs.Session.{with_controller, with_flight, with_stall, marked}
use Rattle.session.specs.declared.{InFlight.InFlight, RecoverableStall.RecoverableStall, Recovery.Recovery, RecoveryKind.RecoveryKind, Session.Session, Size.Size}
use Rattle.scope.specs.Affected.{affected_of, tokens_of}
use Rattle.scope.specs.Scope.{meant, in_scope}
use Rattle.scope.specs.Returned.{read_returned, lists_agree}
use Rattle.recovery.specs.Entries.{onward_by, complete_all, aborts_in}
use Rattle.recovery.specs.declared.{AbortReport.AbortReport, BackendAbort.BackendAbort, BackendLists.BackendLists, Replied.Replied, recovery_reply.Ended.Ended}

-- what comes with a reply: the tokens that the backend completed, the words of their completions, those that it aborted, and the data
pub record ReplyLists : Type 0 where
  pub tokens : List ℕ
  pub completions : List ℕ
  pub aborted : List ℕ
  pub bytes : List ℕ

abbrev pub reply_lists : List ℕ → List ℕ → List ℕ → List ℕ → ReplyLists
reply_lists tokens completions aborted bytes = record { tokens = tokens; completions = completions; aborted = aborted; bytes = bytes }

-- what the code's record says
abbrev pub lists_in : BackendLists → ReplyLists
lists_in x = reply_lists x.tokens.now x.completions.now x.aborted.now x.bytes.now

-- completions in order, then aborts; `place` says which row a token means
unfoldable pub apply_all : Size → (ℕ → ℕ) → ReplyLists → Memory → After (Result ⊤ Refusal) Memory
apply_all z place l m =
    let done = complete_all z place (read_returned l.tokens l.completions) l.bytes m in
    onward_by done.result done (aborts_in place l.aborted)

-- a recovery whose reply is in: the session without it, the recovery, and what the backend says
abbrev pub ended : Session → Recovery → BackendAbort → Ended
ended idle x o = record { idle = idle; recovery = x; outcome = o }

-- ready, and without an error
abbrev pub is_whole : BackendAbort → Bool
is_whole o = o.restart_ready && not (has_error o.error)

-- ---- the session after the entries

abbrev pub is_revision : Option ℕ → ℕ → Bool
is_revision None n = false
is_revision (Some m) n = eqb m n

-- the note is of the recovery's device and endpoint, no row is Failed and not quiescent, and the session's revision is the note's
abbrev pub matching : RecoverableStall → Recovery → Bool → Session → Bool
matching note x certain s =
    same_device note.device x.device && eqb note.endpoint x.endpoint && certain && is_revision s.recovery_revision note.revision

-- a reset takes the stall note; where it matches, the controller is Initialized again
unfoldable pub restored_by : Option RecoverableStall → Recovery → Bool → Session → Session
restored_by None x certain s = with_stall s None
restored_by (Some note) x certain s =
    with_controller (with_stall s None) Initialized s.recovery_revision if matching note x certain s else
    with_stall s None

unfoldable pub reset_by : RecoveryKind → Recovery → List Row → Session → Session
reset_by RecoveryKind.Abort x rows s = s
reset_by (RecoveryKind.Reset preserve) x rows s = restored_by s.recoverable_stall x (not (any_in is_uncertain rows)) s

-- an error or not ready marks recovery
unfoldable pub session_after : Ended → List Row → Session
session_after e rows = marked e.idle if not (is_whole e.outcome) else reset_by e.recovery.kind e.recovery rows e.idle

-- a refusal by 48 marks recovery; those by 47 and 41 do not
unfoldable pub refused_after : Refusal → Session → Session
refused_after r idle = marked idle if eqb r.number 48 else idle

-- ---- the report

-- n requests were completed, m aborted
abbrev pub abort_report : Ended → ℕ → ℕ → AbortReport
abort_report e n m = record {
  target = e.recovery.target;
  device = e.recovery.device;
  endpoint = e.recovery.endpoint;
  completed = n;
  aborted = m;
  restart_ready = e.outcome.restart_ready;
  error = e.outcome.error;
}

abbrev pub recovery_refused : Session → Refusal → Replied
recovery_refused s r = record { answer = Err r; session = s; places = replicate 128 0 }

unfoldable pub concluded_by : Result ⊤ Refusal → Ended → AbortReport → List ℕ → List Row → Replied
concluded_by (Err r) e report places rows = recovery_refused (refused_after r e.idle) r
concluded_by (Ok tt) e report places rows = record { answer = Ok report; session = session_after e rows; places = places }

-- ---- the stages

-- the entries, then the session and the report, with the places of the completed rows and behind them those of the aborted ones
unfoldable pub settled_of : Ended → (ℕ → ℕ) → ReplyLists → Memory → After Replied Memory
settled_of e place l m =
    let done = apply_all e.idle.size place l m in
    let report = abort_report e (length l.tokens) (length l.aborted) in
    let places = listed 128 0 (map place (l.tokens ++ l.aborted)) in
    after (concluded_by done.result e report places done.lent.store.rows) done.lent

-- refused by 46, with a mark, if the tokens are not in scope; `own` are the tokens of the affected rows
unfoldable pub done_of : Ended → List ℕ → List ℕ → ReplyLists → Memory → After Replied Memory
done_of e affected own l m =
    after (recovery_refused (marked e.idle) (refusal_of 46)) m if not (in_scope (is_whole e.outcome) own (l.tokens ++ l.aborted)) else
    settled_of e (meant affected own) l m

-- refused by 45, always with a mark, if the backend failed
unfoldable pub reply_by : Result BackendAbort OperationError → Recovery → ReplyLists → Session → Memory → After Replied Memory
reply_by (Err e) x l idle m = after (recovery_refused (marked idle) (from_backend 45 e)) m
reply_by (Ok o) x l idle m =
    let affected = affected_of x.device x.endpoint m.store.rows in
    done_of (ended idle x o) affected (tokens_of m.store.rows affected) l m

-- refused by 3 if a slice has not the session's size, by 49 if the lists disagree; the operation stays in flight
unfoldable pub reply_sized : Result BackendAbort OperationError → Recovery → ReplyLists → Session → Memory → After Replied Memory
reply_sized r x l s m =
    after (recovery_refused s (refusal_of 3)) m if not (memory_fits s.size m) else
    after (recovery_refused s (refusal_of 49)) m if not (lists_agree (length l.tokens) l.completions (length l.bytes)) else
    reply_by r x l (with_flight s InFlight.Nothing) m

-- refused by 2 if no recovery is in flight
unfoldable pub reply_in : InFlight → Result BackendAbort OperationError → ReplyLists → Session → Memory → After Replied Memory
reply_in InFlight.Nothing r l s m = after (recovery_refused s (refusal_of 2)) m
reply_in (InFlight.Submission id) r l s m = after (recovery_refused s (refusal_of 2)) m
reply_in (InFlight.Poll id) r l s m = after (recovery_refused s (refusal_of 2)) m
reply_in (InFlight.Recovery x) r l s m = reply_sized r x l s m

unfoldable pub recovery_reply_of : Result BackendAbort OperationError → ReplyLists → Session → Memory → After Replied Memory
recovery_reply_of r l s m = reply_in s.in_flight r l s m
