-- Four steps that the claim must refuse (document 01, "How the checks may be trusted"): each is the calls' own but for one fault. Assumes nothing.
use Rattle.std.specs.Prelude.{ℕ, zero, suc, false, cond, ◌&&◌, List, [], ◌∷◌, eqb, length, take, Result, Ok, Err}
use Rattle.chain.specs.After.{After, after}
use Rattle.models.specs.declared.{DeviceId.DeviceId, OperationError.OperationError, RequestId.RequestId}
use Rattle.rows.specs.Table.{is_held, row_in}
use Rattle.rows.specs.declared.{Row.Row}
use Rattle.rules.specs.declared.Change.TheVariants as change
use Rattle.session.specs.Lent.{Lent}
use Rattle.session.specs.Session.{with_flight}
use Rattle.session.specs.declared.{InFlight.InFlight}
use Rattle.reports.specs.Change.{change_of}
use Rattle.scope.specs.Affected.{insert_row, tokens_of}
use Rattle.scope.specs.Returned.{completion_words, brought_at}
use Rattle.recovery.specs.RecoveryReply.{ReplyLists, reply_lists, ended, done_of}
use Rattle.calls.specs.Calls.{Open, Place, Move, Begin, Reply, ToSubmit, ToPoll, ToRecovery, Change, Cancel, Timeout, Reclaim, Withdraw, Read, Status, Reports, CountReports, CompletedBytes, HeldCount, HeldBytes}
use Rattle.calls.specs.Step.{World, world_store, reports, recovers, reads, read_of, step_of}
use Rattle.calls.specs.declared.{Answer.Answer, Outcome.Outcome}
use Rattle.runs.specs.Run.{Stepping}
use Rattle.history.specs.Journal.{ends_by, counts_by}
use Rattle.recovery.specs.declared.{BackendAbort.BackendAbort}

-- the calls in which an impostor goes its own way: a recovery's reply, a timeout, the held count
pub record Ways : Type 0 where
  pub recovery : Result BackendAbort OperationError → ReplyLists → World → After Outcome Lent
  pub timeout : RequestId → World → After Outcome Lent
  pub held : World → Answer

-- the right ones
abbrev pub right_ways : Ways
right_ways = record {
  recovery = λ q l w. step_of (Reply (ToRecovery q l)) w;
  timeout = λ id w. step_of (Change id Timeout) w;
  held = λ w. read_of HeldCount w;
}

-- every other call is the calls' own
abbrev pub step_with : Ways → Stepping
step_with f (Open o) w = step_of (Open o) w
step_with f (Place p) w = step_of (Place p) w
step_with f (Move m) w = step_of (Move m) w
step_with f (Begin b) w = step_of (Begin b) w
step_with f (Reply (ToSubmit q)) w = step_of (Reply (ToSubmit q)) w
step_with f (Reply (ToPoll q bytes)) w = step_of (Reply (ToPoll q bytes)) w
step_with f (Reply (ToRecovery q l)) w = f.recovery q l w
step_with f (Change id Cancel) w = step_of (Change id Cancel) w
step_with f (Change id Timeout) w = f.timeout id w
step_with f (Change id Reclaim) w = step_of (Change id Reclaim) w
step_with f (Change id Withdraw) w = step_of (Change id Withdraw) w
step_with f (Read (Status id)) w = step_of (Read (Status id)) w
step_with f (Read (Reports from)) w = step_of (Read (Reports from)) w
step_with f (Read CountReports) w = step_of (Read CountReports) w
step_with f (Read (CompletedBytes id)) w = step_of (Read (CompletedBytes id)) w
step_with f (Read HeldCount) w = reads (f.held w) w
step_with f (Read HeldBytes) w = step_of (Read HeldBytes) w

-- ---- a recovery that applies its first entry and merely reports the others

-- the first completion with its bytes or, where there is none, the first abort
abbrev pub first_of : List ℕ → ReplyLists → ReplyLists
first_of [] l = reply_lists [] [] (take 1 l.aborted) []
first_of (t ∷ ts) l =
    reply_lists (t ∷ []) (take completion_words l.completions) [] (take (brought_at l.completions 0).given l.bytes)

-- of a reply that is not ready a part of the affected tokens is in scope
abbrev pub not_ready : Result BackendAbort OperationError → Result BackendAbort OperationError
not_ready (Err e) = Err e
not_ready (Ok o) = Ok (record { restart_ready = false; error = o.error })

-- where the entries count: the right answer and session, and what the first entry leaves
abbrev pub first_applied : Result BackendAbort OperationError → ReplyLists → World → After Outcome Lent
first_applied q l w =
    let right = right_ways.recovery q l w in
    cond (ends_by right.result.answer && counts_by right.result.answer)
    (after right.result (right_ways.recovery (not_ready q) (first_of l.tokens l) w).lent) right

abbrev pub first_only : Stepping
first_only = step_with (record { recovery = first_applied; timeout = right_ways.timeout; held = right_ways.held })

-- ---- an invented held count

abbrev pub held_invented : Stepping
held_invented = step_with (record { recovery = right_ways.recovery; timeout = right_ways.timeout; held = λ w. Answer.Number 0 })

-- ---- a timeout that releases

-- the right answer and session, and what a confirmed abort leaves
abbrev pub timeout_aborts : RequestId → World → After Outcome Lent
timeout_aborts id w = after (right_ways.timeout id w).result (reports (change_of id change.ConfirmAbort w.session (world_store w)) w).lent

abbrev pub timeout_releases : Stepping
timeout_releases = step_with (record { recovery = right_ways.recovery; timeout = timeout_aborts; held = right_ways.held })

-- ---- slots compared in place of whole device ids

-- of the first n rows those that are held, of the device's slot and the endpoint, by ascending id
abbrev pub in_slot_up_to : DeviceId → ℕ → List Row → ℕ → List ℕ
in_slot_up_to d endpoint rows zero = []
in_slot_up_to d endpoint rows (suc n) =
    let r = row_in rows n in
    let l = in_slot_up_to d endpoint rows n in
    cond (is_held r && eqb r.metadata.device.slot d.slot && eqb r.metadata.endpoint endpoint) (insert_row rows n l) l

-- those are the affected rows; `right` is what is right
abbrev pub in_slot_by : InFlight → Result BackendAbort OperationError → ReplyLists → World → After Outcome Lent → After Outcome Lent
in_slot_by InFlight.Nothing q l w right = right
in_slot_by (InFlight.Submission id) q l w right = right
in_slot_by (InFlight.Poll id) q l w right = right
in_slot_by (InFlight.Recovery x) (Err e) l w right = right
in_slot_by (InFlight.Recovery x) (Ok o) l w right =
    let rows = (world_store w).rows in
    let affected = in_slot_up_to x.device x.endpoint rows (length rows) in
    recovers (done_of (ended (with_flight w.session InFlight.Nothing) x o) affected (tokens_of rows affected) l w.lent.memory) w

-- where the reply is not refused by 2, 3 or 49
abbrev pub in_slot : Result BackendAbort OperationError → ReplyLists → World → After Outcome Lent
in_slot q l w =
    let right = right_ways.recovery q l w in
    cond (ends_by right.result.answer) (in_slot_by w.session.in_flight q l w right) right

abbrev pub slots_compared : Stepping
slots_compared = step_with (record { recovery = in_slot; timeout = right_ways.timeout; held = right_ways.held })
