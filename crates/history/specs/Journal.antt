-- The journal (document 01's "book of demand 3"): what calls and answers say of each request. It reads no row. Assumes nothing.
use Rattle.std.specs.Prelude.{ℕ, zero, suc, Bool, true, false, not, cond, ◌&&◌, ◌||◌, List, [], ◌∷◌, map, eqb, length, get_or, set, take, drop, Option, Some, None, Result, Ok, Err}
use Rattle.chain.specs.Lists.{find, map_at}
use Rattle.models.specs.Requests.{no_id, same_request, same_device, request_before}
use Rattle.models.specs.declared.{BackendCompletion.BackendCompletion, DeviceId.DeviceId, OperationError.OperationError, RequestId.RequestId}
use Rattle.checks.specs.Completion.{test_completion}
use Rattle.checks.specs.Plan.{stage_of}
use Rattle.session.specs.declared.{InFlight.InFlight, Recovery.Recovery, RecoveryKind.RecoveryKind}
use Rattle.scope.specs.Returned.{Returned, read_returned}
use Rattle.recovery.specs.RecoveryReply.{ReplyLists}
use Rattle.calls.specs.Calls.{Call, Open, Place, Move, Acquire, Initialize, Close, Begin, Submit, SubmitPlan, Poll, Recover, Reply, ToSubmit, ToPoll, ToRecovery, Change, Read}
use Rattle.calls.specs.Answers.{is_pass, is_asked, is_recovering, begun_id}
use Rattle.calls.specs.Said.{answer_said}
use Rattle.calls.specs.declared.{Answer.Answer}
use Rattle.runs.specs.Run.{Answered}
use Rattle.checks.specs.declared.{completion.CompletionFault.CompletionFault, completion.ValidCompletion.ValidCompletion}
use Rattle.polls.specs.declared.{PollAnswer.PollAnswer}

-- what an entry and a row have in common; a token that has not come yet is 0
pub record View : Type 0 where
  pub id : RequestId
  pub device : DeviceId
  pub endpoint : ℕ
  pub requested : ℕ
  pub token : ℕ
  pub failed : Bool

-- a request that was submitted, kept for ever: document 01's line
pub record Entry : Type 0 where
  pub view : View
  pub releases : ℕ

-- the latest entry first, and the operation that waits for its reply
pub record Journal : Type 0 where
  pub entries : List Entry
  pub waiting : InFlight

abbrev pub blank : Journal
blank = record { entries = []; waiting = InFlight.Nothing }

-- ---- entries

abbrev pub is_none : ℕ → Bool
is_none zero = true
is_none (suc n) = false

-- without a release
abbrev pub is_open : Entry → Bool
is_open e = is_none e.releases

abbrev pub is_entry : RequestId → Entry → Bool
is_entry id e = same_request e.view.id id

abbrev pub view_of : RequestId → DeviceId → ℕ → ℕ → View
view_of id device endpoint requested = record { id = id; device = device; endpoint = endpoint; requested = requested; token = 0; failed = false }

-- stands for no entry at all
abbrev pub no_entry : Entry
no_entry = record { view = view_of no_id (record { session = 0; generation = 0; slot = 0 }) 0 0; releases = 1 }

-- the entry of an id is the latest of that id
abbrev pub entry_of : RequestId → List Entry → Entry
entry_of id l = get_or l (find (is_entry id) l) no_entry

abbrev pub at_entry : RequestId → (Entry → Entry) → List Entry → List Entry
at_entry id f l = set l (find (is_entry id) l) (f (entry_of id l))

abbrev pub release : Entry → Entry
release e = record { view = e.view; releases = suc e.releases }

abbrev pub failing : View → View
failing v = record { id = v.id; device = v.device; endpoint = v.endpoint; requested = v.requested; token = v.token; failed = true }

abbrev pub tokened : ℕ → View → View
tokened t v = record { id = v.id; device = v.device; endpoint = v.endpoint; requested = v.requested; token = t; failed = v.failed }

abbrev pub with_view : (View → View) → Entry → Entry
with_view f e = record { view = f e.view; releases = e.releases }

abbrev pub mark_failed : Entry → Entry
mark_failed e = with_view failing e

abbrev pub entry_with_token : ℕ → Entry → Entry
entry_with_token t e = with_view (tokened t) e

-- ---- what the answers say

-- the number of a refusal, 0 where it is none
abbrev pub refusal_number : Answer → ℕ
refusal_number a = (answer_said a).number

-- a reply that ends its operation: none refused by 2, 3 or 49
abbrev pub ends_by : Answer → Bool
ends_by a = not (eqb (refusal_number a) 2 || eqb (refusal_number a) 3 || eqb (refusal_number a) 49)

-- a recovery's reply whose entries count: none refused by 45 or 46
abbrev pub counts_by : Answer → Bool
counts_by a = not (eqb (refusal_number a) 45 || eqb (refusal_number a) 46)

-- ---- submissions

abbrev pub new_entry : RequestId → DeviceId → ℕ → ℕ → Entry
new_entry id device endpoint requested = record { view = view_of id device endpoint requested; releases = 0 }

abbrev pub begun_by : Option RequestId → DeviceId → ℕ → ℕ → Journal → Journal
begun_by None device endpoint requested j = j
begun_by (Some id) device endpoint requested j =
    record { entries = new_entry id device endpoint requested ∷ j.entries; waiting = InFlight.Submission id }

-- the reply adds the token or, by 45, a release
abbrev pub accepted_as : Result ℕ OperationError → Entry → Entry
accepted_as (Ok token) e = entry_with_token token e
accepted_as (Err x) e = release e

-- ---- polls

abbrev pub tested_as : Result ValidCompletion CompletionFault → Entry → Entry
tested_as (Ok v) e = release e
tested_as (Err CompletionFault.MissingLength) e = mark_failed e
tested_as (Err CompletionFault.Invalid) e = mark_failed e

-- a completion adds a release if valid, or quiescent with an error; else it marks the entry Failed
abbrev pub settled_by : Option OperationError → BackendCompletion → ℕ → Entry → Entry
settled_by (Some x) c given e = cond c.quiescent (release e) (mark_failed e)
settled_by None c given e = tested_as (test_completion c given e.view.requested) e

-- ---- the journal after a call

-- the entry that the operation is about
abbrev pub at_waiting : InFlight → (Entry → Entry) → List Entry → List Entry
at_waiting InFlight.Nothing f l = l
at_waiting (InFlight.Submission id) f l = at_entry id f l
at_waiting (InFlight.Poll id) f l = at_entry id f l
at_waiting (InFlight.Recovery x) f l = l

abbrev pub ended_with : (Entry → Entry) → Journal → Journal
ended_with f j = record { entries = at_waiting j.waiting f j.entries; waiting = InFlight.Nothing }

abbrev pub idle : Journal → Journal
idle j = record { entries = j.entries; waiting = InFlight.Nothing }

-- nothing came, or the backend's error: no entry changes
abbrev pub polled_by : Result (Option BackendCompletion) OperationError → ℕ → Journal → Journal
polled_by (Ok None) given j = idle j
polled_by (Err x) given j = idle j
polled_by (Ok (Some c)) given j = ended_with (settled_by c.error c given) j

abbrev pub poll_waits : RequestId → Journal → Journal
poll_waits id j = record { entries = j.entries; waiting = InFlight.Poll id }

-- ---- recoveries

-- of the device and the endpoint
abbrev pub of_scope : DeviceId → ℕ → View → Bool
of_scope d endpoint v = same_device v.device d && eqb v.endpoint endpoint

-- by ascending id
abbrev pub insert_view : View → List View → List View
insert_view v [] = v ∷ []
insert_view v (u ∷ us) = cond (request_before v.id u.id) (v ∷ u ∷ us) (u ∷ insert_view v us)

-- a recovery affects entries as it does rows, an entry without a release counting as held
abbrev pub affected_views : DeviceId → ℕ → List Entry → List View
affected_views d endpoint [] = []
affected_views d endpoint (e ∷ es) =
    cond (is_open e && of_scope d endpoint e.view) (insert_view e.view (affected_views d endpoint es)) (affected_views d endpoint es)

-- the entry that a token means: the lowest affected id that has it
abbrev pub meant_view : List View → ℕ → View
meant_view vs t = get_or vs (find (eqb t) (map (λ (v : View). v.token) vs)) no_entry.view

-- the entries after the reply's, and whether one was refused
pub record ReleasedTo : Type 0 where
  pub refused : Bool
  pub entries : List Entry

abbrev pub released_to : Bool → List Entry → ReleasedTo
released_to b es = record { refused = b; entries = es }

-- a completion of the entry v: a release, unless it meets 47, 48 or, the entry being marked Failed, 41
abbrev pub completes_by : Result ValidCompletion CompletionFault → View → List Entry → ReleasedTo
completes_by (Err CompletionFault.MissingLength) v es = released_to true es
completes_by (Err CompletionFault.Invalid) v es = released_to true es
completes_by (Ok vs) v es = cond v.failed (released_to true es) (released_to false (at_entry v.id release es))

abbrev pub goes_on : ReleasedTo → (List Entry → ReleasedTo) → ReleasedTo
goes_on q next = cond q.refused q (next q.entries)

abbrev pub completes_all : (ℕ → View) → List Returned → List ℕ → List Entry → ReleasedTo
completes_all view [] bytes es = released_to false es
completes_all view (r ∷ rs) bytes es =
    goes_on (completes_by (test_completion r.brought.completion (length (take r.brought.given bytes)) (view r.token).requested) (view r.token) es)
    (λ (x : List Entry). completes_all view rs (drop r.brought.given bytes) x)

abbrev pub aborts_all : (ℕ → View) → List ℕ → List Entry → List Entry
aborts_all view [] es = es
aborts_all view (t ∷ ts) es = aborts_all view ts (at_entry (view t).id release es)

-- completions in order, then the aborts; none from the first on that is refused
abbrev pub aborted_after : ReleasedTo → (ℕ → View) → List ℕ → List Entry
aborted_after q view aborted = cond q.refused q.entries (aborts_all view aborted q.entries)

abbrev pub releases_all : (ℕ → View) → ReplyLists → List Entry → List Entry
releases_all view l es = aborted_after (completes_all view (read_returned l.tokens l.completions) l.bytes es) view l.aborted

-- a recovery is of the device and the endpoint that its target's own entry says
abbrev pub recovery_as : RequestId → RecoveryKind → View → Recovery
recovery_as id kind v = record { target = id; device = v.device; endpoint = v.endpoint; kind = kind }

abbrev pub recovery_waits : RequestId → RecoveryKind → Journal → Journal
recovery_waits id kind j = record { entries = j.entries; waiting = InFlight.Recovery (recovery_as id kind (entry_of id j.entries).view) }

abbrev pub released_in : InFlight → ReplyLists → List Entry → List Entry
released_in InFlight.Nothing l es = es
released_in (InFlight.Submission id) l es = es
released_in (InFlight.Poll id) l es = es
released_in (InFlight.Recovery x) l es = releases_all (meant_view (affected_views x.device x.endpoint es)) l es

abbrev pub recovered_journal : Answer → ReplyLists → Journal → Journal
recovered_journal a l j =
    cond (ends_by a) (record { entries = cond (counts_by a) (released_in j.waiting l j.entries) j.entries; waiting = InFlight.Nothing }) j

-- a close that passes adds a release to each entry without
abbrev pub released_all : Journal → Journal
released_all j = record { entries = map_at is_open release j.entries; waiting = j.waiting }

unfoldable pub journal_step : Call → Answer → Journal → Journal
journal_step (Open o) a j = cond (is_pass a) blank j
journal_step (Place p) a j = j
journal_step (Move (Acquire reply)) a j = j
journal_step (Move (Initialize reply)) a j = j
journal_step (Move (Close fresh reply)) a j = cond (is_pass a) (released_all j) j
journal_step (Begin (Submit packets q)) a j = begun_by (begun_id a) q.spec.device q.spec.endpoint q.spec.length j
-- a plan is for endpoint 0, its length that of its data stage
journal_step (Begin (SubmitPlan q)) a j = begun_by (begun_id a) q.plan.device 0 (stage_of q.plan.data_stage q.plan.setup.request_type).length j
journal_step (Begin (Poll id)) a j = cond (is_asked a) (poll_waits id j) j
journal_step (Begin (Recover id kind)) a j = cond (is_recovering a) (recovery_waits id kind j) j
journal_step (Reply (ToSubmit reply)) a j = cond (ends_by a) (ended_with (accepted_as reply) j) j
journal_step (Reply (ToPoll reply bytes)) a j = cond (ends_by a) (polled_by reply (length bytes) j) j
journal_step (Reply (ToRecovery reply lists)) a j = recovered_journal a lists j
journal_step (Change id c) a j = j
journal_step (Read r) a j = j

abbrev pub journal_of : List Answered → Journal → Journal
journal_of [] j = j
journal_of (h ∷ hs) j = journal_of hs (journal_step h.call h.answer j)
