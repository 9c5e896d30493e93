-- Demand 3, one claim about a list of calls: the held rows are the entries without a release. Assumes nothing.
use Rattle.std.specs.Prelude.{ℕ, ◌≤◌, ◌<◌, Bool, true, false, cond, ◌&&◌, List, [], ◌∷◌, ◌++◌, map, ◌≡◌, eqb, length, Option, Some, None, Result}
use Rattle.chain.specs.Lists.{sum_by, only, count, any_in, is_among}
use Rattle.models.specs.Refusals.{refusal_of}
use Rattle.models.specs.Requests.{held_most, is_uncertain_failure, same_request}
use Rattle.models.specs.declared.{DeviceId.DeviceId, OperationError.OperationError, RequestId.RequestId, RequestReport.RequestReport, RequestState.RequestState}
use Rattle.models.specs.declared.RequestState.TheVariants.{Pending, Completed, Failed, Aborted}
use Rattle.rows.specs.Table.{is_held, row_in, token_in}
use Rattle.rows.specs.declared.{Row.Row}
use Rattle.rules.specs.Rules.{with_state}
use Rattle.ledger.specs.Search.{is_at}
use Rattle.checks.specs.Completion.{has_error}
use Rattle.session.specs.declared.{InFlight.InFlight, Recovery.Recovery, RecoveryKind.RecoveryKind}
use Rattle.scope.specs.Affected.{is_affected}
use Rattle.scope.specs.Returned.{Returned, read_returned}
use Rattle.recovery.specs.RecoveryReply.{ReplyLists}
use Rattle.recovery.specs.declared.{AbortReport.AbortReport, BackendAbort.BackendAbort}
use Rattle.calls.specs.Calls.{Call, Begin, Recover, Reply, ToRecovery, Change, Reclaim, Read, HeldCount, HeldBytes}
use Rattle.calls.specs.Step.{World, step_of, world_store, next}
use Rattle.calls.specs.Answers.{begun_id}
use Rattle.calls.specs.declared.{Answer.Answer}
use Rattle.runs.specs.Completed.{completed_as}
use Rattle.runs.specs.Run.{Handed, Event, calls, Answered, Stepping, world_by, end_by, history_by, answer_by}
use Rattle.history.specs.Journal.{Entry, View, blank, is_open, is_entry, recovery_waits, journal_of}

-- what a row has in common with an entry
abbrev pub row_view : Row → View
row_view r = record {
  id = r.id;
  device = r.metadata.device;
  endpoint = r.metadata.endpoint;
  requested = r.metadata.requested_length;
  token = r.token;
  failed = is_uncertain_failure r.state;
}

-- a held row, and an entry without a release, that pass a filter
abbrev pub held_as : (View → Bool) → Row → Bool
held_as p r = is_held r && p (row_view r)

abbrev pub open_as : (View → Bool) → Entry → Bool
open_as p e = is_open e && p e.view

abbrev pub row_length : Row → ℕ
row_length r = r.metadata.requested_length

pub record Agrees (p : View → Bool) (rows : List Row) (entries : List Entry) : Type 0 where
  -- as sets the ids of the held rows equal those of the entries without a release
  pub ids : (x : RequestId) → any_in (λ r. is_at x r && held_as p r) rows ≡ any_in (λ e. is_entry x e && open_as p e) entries
  pub number : count (held_as p) rows ≡ count (open_as p) entries
  pub lengths : sum_by (only (held_as p) row_length) rows ≡ sum_by (only (open_as p) (λ e. e.view.requested)) entries
  pub bound : count (held_as p) rows ≤ held_most

-- how many releases an id has
abbrev pub releases_of : RequestId → List Entry → ℕ
releases_of x l = sum_by (only (is_entry x) (λ e. e.releases)) l

-- by any step: the rows and the entries where calls end, and the rows that a call leaves
abbrev pub rows_end : Stepping → World → List Event → List Row
rows_end step w es = (world_store (end_by step w es)).rows

abbrev pub entries_end : Stepping → World → List Event → List Entry
entries_end step w es = (journal_of (history_by step w es) blank).entries

abbrev pub rows_left : Stepping → World → Event → List Row
rows_left step w e = (world_store (world_by step e.handed e.call w)).rows

-- by the calls' own
abbrev pub rows_after : World → List Event → List Row
rows_after w es = rows_end step_of w es

abbrev pub entries_after : World → List Event → List Entry
entries_after w es = entries_end step_of w es

abbrev pub rows_by : World → Event → List Row
rows_by w e = rows_left step_of w e

abbrev pub reclaims : RequestId → Handed → Event
reclaims x h = record { call = Change x Reclaim; handed = h }

-- an answer that hands the id x over
abbrev pub is_begun : RequestId → Option RequestId → Bool
is_begun x None = false
is_begun x (Some id) = same_request id x

abbrev pub hands_over : RequestId → Answered → Bool
hands_over x h = is_begun x (begun_id h.answer)

-- ---- what a recovery that succeeded leaves

-- as the reply names the row's token: by a completion, as aborted, or not at all
abbrev pub named_as : List Returned → List ℕ → Row → Row
named_as [] aborted r = cond (is_among r.token aborted) (with_state r Aborted) r
named_as (c ∷ cs) aborted r = cond (eqb c.token r.token) (completed_as c r) (named_as cs aborted r)

-- an affected row as the reply names it, every other unchanged
abbrev pub recovered_as : DeviceId → ℕ → List Returned → List ℕ → Row → Row
recovered_as d endpoint cs aborted r = cond (is_affected d endpoint r) (named_as cs aborted r) r

abbrev pub is_settled : RequestState → Bool
is_settled (Pending cancel late) = false
is_settled (Completed actual code cancel) = true
is_settled (Failed error code quiescent) = false
is_settled Aborted = true

-- the affected tokens are all different; the rows at the reply are those at the start (law `start_unchanged`)
abbrev pub Different : DeviceId → ℕ → List Row → Type 0
Different d endpoint rows = (i j : ℕ) → i < length rows → j < length rows → is_affected d endpoint (row_in rows i) ≡ true → is_affected d endpoint (row_in rows j) ≡ true
    → token_in rows i ≡ token_in rows j → i ≡ j

pub record Recovered (d : DeviceId) (endpoint : ℕ) (l : ReplyLists) (rows rows' : List Row) : Type 0 where
  -- every row, whole
  pub rows_are : rows' ≡ map (recovered_as d endpoint (read_returned l.tokens l.completions) l.aborted) rows
  -- the reply names each affected token
  pub named : (i : ℕ) → i < length rows → is_affected d endpoint (row_in rows i) ≡ true → is_among (token_in rows i) (l.tokens ++ l.aborted) ≡ true
  -- so each affected request is Completed or Aborted
  pub settled : (i : ℕ) → i < length rows → is_affected d endpoint (row_in rows i) ≡ true → is_settled (row_in rows' i).state ≡ true

-- ---- what a recovery's reply spares

-- as many rows, and those that are not affected are equal, whole
pub record Unaffected (d : DeviceId) (endpoint : ℕ) (rows rows' : List Row) : Type 0 where
  pub number : length rows' ≡ length rows
  pub equal : (i : ℕ) → i < length rows → is_affected d endpoint (row_in rows i) ≡ false → row_in rows' i ≡ row_in rows i

-- by the operation that waits; where it is no recovery, every row is equal
abbrev pub Spared : InFlight → List Row → List Row → Type 0
Spared InFlight.Nothing rows rows' = rows' ≡ rows
Spared (InFlight.Submission id) rows rows' = rows' ≡ rows
Spared (InFlight.Poll id) rows rows' = rows' ≡ rows
Spared (InFlight.Recovery x) rows rows' = Unaffected x.device x.endpoint rows rows'

-- a recovery's start
abbrev pub starts : RecoveryKind → RequestId → Handed → Event
starts q id h = record { call = Begin (Recover id q); handed = h }

-- a recovery's reply
abbrev pub returns : Result BackendAbort OperationError → ReplyLists → Handed → Event
returns reply l h = record { call = Reply (ToRecovery reply l); handed = h }

-- a report is of the operation
abbrev pub ReportOf : InFlight → AbortReport → Type 0
ReportOf f x = (q : RecoveryKind) × (f ≡ InFlight.Recovery (record { target = x.target; device = x.device; endpoint = x.endpoint; kind = q }))

-- of a step and a list of calls; the theorem is about `step_of`
pub record ClaimOf (step : Stepping) (w : World) (es : List Event) : Type 0 where
  pub agrees : (p : View → Bool) → Agrees p (rows_end step w es) (entries_end step w es)
  -- the calls' own tallies stop at their widths' maxima, and never come to them
  pub count_is : answer_by step (end_by step w es) (calls (Read HeldCount)) ≡ Answer.Number (count is_open (entries_end step w es))
  pub bytes_is : answer_by step (end_by step w es) (calls (Read HeldBytes)) ≡ Answer.Number (sum_by (only is_open (λ e. e.view.requested)) (entries_end step w es))
  pub one_entry : (x : RequestId) → count (is_entry x) (entries_end step w es) ≤ 1
  pub one_release : (x : RequestId) → releases_of x (entries_end step w es) ≤ 1
  -- exactly one before it is reclaimed
  pub reclaimed : (before after : List Event) (h : Handed) (x : RequestId) (r : RequestReport) → es ≡ before ++ (reclaims x h ∷ after)
      → answer_by step (end_by step w before) (reclaims x h) ≡ Answer.Report r → releases_of x (entries_end step w before) ≡ 1
  -- an id was handed over as often as it has entries: at most once, and no entry is forgotten
  pub handed : (x : RequestId) → count (hands_over x) (history_by step w es) ≡ count (is_entry x) (entries_end step w es)
  -- a recovery's start that opened its operation named the call's target and kind, and the device and the endpoint of the target's entry
  pub started : (before after : List Event) (h : Handed) (q : RecoveryKind) (id : RequestId) → es ≡ before ++ (starts q id h ∷ after) → (x : Recovery)
      → answer_by step (end_by step w before) (starts q id h) ≡ Answer.Recovering x
      → InFlight.Recovery x ≡ (recovery_waits id q (journal_of (history_by step w before) blank)).waiting
  -- each recovery that succeeded, ready and without an error, the affected tokens all different
  pub recovered : (before after : List Event) (h : Handed) (reply : Result BackendAbort OperationError) (l : ReplyLists) → es ≡ before ++ (returns reply l h ∷ after) → (x : AbortReport)
      → answer_by step (end_by step w before) (returns reply l h) ≡ Answer.Recovered x → x.restart_ready ≡ true → has_error x.error ≡ false
      → Different x.device x.endpoint (rows_end step w before)
      → Recovered x.device x.endpoint l (rows_end step w before) (rows_left step (end_by step w before) (returns reply l h))
  -- whatever a recovery's reply is answered, it changes no row but those that are affected by the operation that, by the history, waits
  pub spared : (before after : List Event) (h : Handed) (reply : Result BackendAbort OperationError) (l : ReplyLists) → es ≡ before ++ (returns reply l h ∷ after)
      → Spared (journal_of (history_by step w before) blank).waiting (rows_end step w before) (rows_left step (end_by step w before) (returns reply l h))
  -- the report of any recovery is of the operation that, by the history, waited
  pub reported : (before after : List Event) (h : Handed) (reply : Result BackendAbort OperationError) (l : ReplyLists) → es ≡ before ++ (returns reply l h ∷ after) → (x : AbortReport)
      → answer_by step (end_by step w before) (returns reply l h) ≡ Answer.Recovered x → ReportOf (journal_of (history_by step w before) blank).waiting x
  -- a refusal by 3 leaves whatever the call was handed as it was
  pub untouched : (c : Call) (v : World) → (step c v).result.answer ≡ Answer.Refused (refusal_of 3) → next (step c v) ≡ v

abbrev pub Claim : World → List Event → Type 0
Claim w es = ClaimOf step_of w es
