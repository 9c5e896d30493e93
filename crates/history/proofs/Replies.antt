-- Polls and the backend's replies keep the invariant. Assumes nothing.
use Rattle.std.specs.Prelude.{Option, Some, None, Result, Ok, Err}
use Prim.Native.Nat.{ℕ, ◌<◌}
use mathlib.Core.Path.{◌≡◌, refl, sym, ap, ◌∙◌, subst}
use mathlib.Core.Bool.{Bool, true, false, cond, false≢true}
use mathlib.Core.List.{List}
use lib.ListN.{length, set}
use Rattle.chain.specs.After.{After, after}
use Rattle.chain.proofs.Chain.{if_all}
use Rattle.models.specs.Refusals.{invalid_completion}
use Rattle.models.specs.Requests.{is_pending}
use Rattle.models.specs.declared.{BackendCompletion.BackendCompletion, OperationError.OperationError, Refusal.Refusal, RequestId.RequestId, RequestReport.RequestReport}
use Rattle.models.specs.declared.RequestState.TheVariants.{Completed, Failed}
use Rattle.rows.specs.Store.{Store, put_in}
use Rattle.rows.specs.InPlace.{cancel_in, completed_row}
use Rattle.rows.specs.Table.{empty_row, is_held, row_in}
use Rattle.rows.specs.declared.{Row.Row}
use Rattle.ledger.specs.Apply.{apply_by, changed_at}
use Rattle.rules.specs.Rules.{moved, freed, with_state, accepted, completed, failed, change_row}
use Rattle.ledger.specs.Search.{is_at}
use Rattle.rules.specs.declared.{Change.Change, Step.Step}
use Rattle.checks.specs.Completion.{test_completion}
use Rattle.session.specs.Session.{marked, with_flight}
use Rattle.session.specs.Lent.{Memory, memory}
use Rattle.session.specs.declared.{Called.Called, InFlight.InFlight, Session.Session}
use Rattle.reports.specs.Answers.{effect}
use Rattle.polls.specs.Poll.{poll_of}
use Rattle.polls.specs.PollReply.{failed_as, invalid_as, judged_test, judged_by, judged, settled, poll_reply_at, poll_reply_of}
use Rattle.polls.specs.declared.{PollAnswer.PollAnswer, poll_reply.Judgement.Judgement}
use Rattle.submissions.specs.SubmitReply.{accepted_by, discarded_by, submit_reply_by, submit_reply_of}
use Rattle.calls.specs.Answers.{of_report, of_poll, is_asked}
use Rattle.runs.specs.Sound.{Sound}
use Rattle.runs.proofs.Ids.{pending_held}
use Rattle.runs.proofs.Ways.{apply_all_lem, reply_all, poll_all, finish_all}
use Rattle.runs.proofs.Facts.{submission_pending, poll_pending}
use Rattle.runs.proofs.Rules.{while_all}
use Rattle.history.specs.Journal.{Entry, Journal, entry_of, at_entry, release, mark_failed, accepted_as, tested_as, settled_by, ends_by, at_waiting, ended_with, idle, polled_by, poll_waits, View}
use Rattle.history.proofs.Led.{row_w, entry_w, length_of, Changed, entry_is}
use Rattle.history.proofs.Changes.{view_is, discard_change, token_change, settle_change, fail_change}
use Rattle.history.proofs.Inv.{Inv, marks, effects, waits_for, ends_at}
use Rattle.checks.specs.declared.{completion.CompletionFault.CompletionFault, completion.ValidCompletion.ValidCompletion}

-- ---- what a completion makes of a Pending row
complete_to : (r : Row) (actual code : ℕ) → is_pending r.state ≡ true → (c : Bool) × (change_row r (Change.Complete actual code) ≡ moved (with_state r (Completed actual code c)))
unfolding change_row completed completed_row
complete_to r actual code p =
    while_all r.state _ (λ (x : Result Step Refusal). (c : Bool) × (x ≡ moved (with_state r (Completed actual code c)))) (λ e. absurd (false≢true (sym e ∙ p))) (λ e. (cancel_in r.state, refl))

fail_to : (r : Row) (x : OperationError) (code : Option ℕ) (quiescent : Bool) → is_pending r.state ≡ true
    → change_row r (Change.Fail x code quiescent) ≡ moved (with_state r (Failed x code quiescent))
unfolding change_row failed
fail_to r x code quiescent p =
    while_all r.state _ (λ (y : Result Step Refusal). y ≡ moved (with_state r (Failed x code quiescent))) (λ e. absurd (false≢true (sym e ∙ p))) (λ e. refl)

module _ (s : Session) (store : Store) (sound : Sound s store) (j : Journal) (seen : List ℕ) (k : Inv s store.rows j seen) where
  -- ---- the reply to a submission
  abbrev ReplyKept : Result ℕ OperationError → After (Called RequestReport) Store → Type 0
  ReplyKept x o = Inv o.result.session o.lent.rows (cond (ends_by (of_report o.result.answer)) (ended_with (accepted_as x) j) j) seen

  module _ (id : RequestId) (own : s.in_flight ≡ InFlight.Submission id) (i : ℕ) (lt : i < length store.rows) (hit : is_at id (row_in store.rows i) ≡ true) where
    abbrev replied : Row
    replied = row_in store.rows i

    abbrev its : Entry
    its = entry_of id j.entries

    replied_held : is_held replied ≡ true
    replied_held = pending_held id replied hit (submission_pending sound id i lt hit own)

    about : (g : Entry → Entry) → at_waiting j.waiting g j.entries ≡ at_entry id g j.entries
    about g = ap (λ (f : InFlight). at_waiting f g j.entries) (k.agree ∙ own)

    token_kept : (t : ℕ) → ReplyKept (Ok t)
        (after (accepted_by (apply_by (change_row replied (Change.Accept t)) i store).result s) (apply_by (change_row replied (Change.Accept t)) i store).lent)
    unfolding apply_by change_row accepted moved accepted_by put_in
    token_kept t = ends_at s store.rows j seen k id i lt hit (accepted_as (Ok t))
        (about (accepted_as (Ok t))) _ (token_change replied its replied_held (entry_is store.rows j.entries k.led id i lt hit) t)

    error_kept : (e : OperationError) → ReplyKept (Err e)
        (after (discarded_by (apply_by (change_row replied Change.Discard) i store).result e s) (apply_by (change_row replied Change.Discard) i store).lent)
    unfolding apply_by change_row freed discarded_by put_in
    error_kept e = ends_at (effect e s) store.rows j seen (effects s store.rows j seen k e) id i lt hit (accepted_as (Err e))
        (about (accepted_as (Err e))) empty_row (discard_change replied its replied_held (entry_is store.rows j.entries k.led id i lt hit))

  reply_by_lem : (x : Result ℕ OperationError) (id : RequestId) → s.in_flight ≡ InFlight.Submission id → ReplyKept x (submit_reply_by x id s store)
  unfolding submit_reply_by accepted_by discarded_by
  reply_by_lem (Ok t) id own =
      apply_all_lem id (Change.Accept t) store (λ a. ReplyKept (Ok t) (after (accepted_by a.result s) a.lent)) k
      (λ i lt hit. token_kept id own i lt hit t)
  reply_by_lem (Err x) id own =
      apply_all_lem id Change.Discard store (λ a. ReplyKept (Err x) (after (discarded_by a.result x s) a.lent)) k
      (λ i lt hit. error_kept id own i lt hit x)

  pub reply_kept : (x : Result ℕ OperationError) → ReplyKept x (submit_reply_of x s store)
  reply_kept x = reply_all x s store (ReplyKept x) k k (λ id own. reply_by_lem x id own)

  -- ---- a poll
  abbrev PollKept : RequestId → Called PollAnswer → Type 0
  PollKept id o = Inv o.session store.rows (cond (is_asked (of_poll o.answer)) (poll_waits id j) j) seen

  pub poll_kept : (id : RequestId) → PollKept id (poll_of id s store)
  poll_kept id = poll_all id s store (PollKept id) (λ x. k) (λ i. k) (λ i lt hit p r. waits_for s store.rows j seen k (InFlight.Poll id))

  -- ---- the reply to a poll
  abbrev FinishKept : Journal → After (Called RequestReport) Memory → Type 0
  FinishKept left o = Inv o.result.session o.lent.store.rows (cond (ends_by (of_report o.result.answer)) left j) seen

  module _ (id : RequestId) (own : s.in_flight ≡ InFlight.Poll id) (i : ℕ) (lt : i < length store.rows)
      (hit : is_at id (row_in store.rows i) ≡ true) (bytes area : List ℕ) where
    abbrev row : Row
    row = row_in store.rows i

    abbrev entry : Entry
    entry = entry_of id j.entries

    -- the session without the poll
    abbrev quiet : Session
    quiet = with_flight s InFlight.Nothing

    polled : is_pending row.state ≡ true
    polled = poll_pending sound id i lt hit own

    held : is_held row ≡ true
    held = pending_held id row hit polled

    is : (w : View → ℕ) → entry_w w entry ≡ row_w w row
    is = entry_is store.rows j.entries k.led id i lt hit

    abbrev To : Result Step Refusal → Judgement → After (Called RequestReport) Memory
    To t x = settled (apply_by t i store) x i bytes quiet area

    -- a change of the row with that of its entry; the session is the one without the poll, or that one marked
    settles : (g : Entry → Entry) (x : Judgement) (r' : Row) → change_row row x.change ≡ moved r'
        → Changed row r' entry (g entry)
        → ((rows' : List Row) (j' : Journal) → Inv quiet rows' j' seen → Inv x.session rows' j' seen)
        → FinishKept (ended_with g j) (To (change_row row x.change) x)
    unfolding settled apply_by moved put_in
    settles g x r' e c m =
        subst (λ (t : Result Step Refusal). FinishKept (ended_with g j) (To t x)) (sym e)
        (m (set store.rows i r') (ended_with g j)
        (ends_at s store.rows j seen k id i lt hit g (ap (λ (f : InFlight). at_waiting f g j.entries) (k.agree ∙ own)) r' c))

    marked_too : (rows' : List Row) (j' : Journal) → Inv quiet rows' j' seen → Inv (marked quiet) rows' j' seen
    marked_too rows' j' h = marks quiet rows' j' seen h

    fail_both : (x : OperationError) (code : Option ℕ) (q : Bool)
        → Changed row (with_state row (Failed x code q)) entry
        (cond q (release entry) (mark_failed entry))
    fail_both x code true = settle_change row entry held is (Failed x code true) refl
    fail_both x code false = fail_change row entry held is (Failed x code false) refl refl

    abbrev JudgedKept : (Entry → Entry) → Judgement → Type 0
    JudgedKept g x = FinishKept (ended_with g j) (To (change_row row x.change) x)

    tested_kept : (c : BackendCompletion) (g : Entry → Entry) (t : Result ValidCompletion CompletionFault) → g entry ≡ tested_as t entry
        → JudgedKept g (judged_test t quiet c)
    unfolding judged_test invalid_as
    tested_kept c g (Ok v) e =
        let p = complete_to row v.actual_length v.completion_code polled in
        settles g _ _ p.1
        (subst (λ (y : Entry). Changed row (with_state row (Completed v.actual_length v.completion_code p.0)) entry y) (sym e)
        (settle_change row entry held is (Completed v.actual_length v.completion_code p.0) refl))
        (λ rows' j' h. h)
    tested_kept c g (Err CompletionFault.MissingLength) e =
        settles g _ _ (fail_to row _ _ false polled)
        (subst (λ (y : Entry). Changed row (with_state row (Failed (invalid_completion c.completion_code).error c.completion_code false)) entry y) (sym e)
        (fail_both _ _ false))
        marked_too
    tested_kept c g (Err CompletionFault.Invalid) e =
        settles g _ _ (fail_to row _ _ false polled)
        (subst (λ (y : Entry). Changed row (with_state row (Failed (invalid_completion c.completion_code).error c.completion_code false)) entry y) (sym e)
        (fail_both _ _ false))
        marked_too

    judged_kept : (o : Option OperationError) (c : BackendCompletion) (given : ℕ)
        → JudgedKept (settled_by o c given) (judged_by o quiet row c given)
    unfolding judged_by failed_as
    judged_kept (Some x) c given =
        if_all (JudgedKept (settled_by (Some x) c given)) _ c.quiescent _
        (settles (settled_by (Some x) c given) _ _ (fail_to row x c.completion_code c.quiescent polled)
        (fail_both x c.completion_code c.quiescent) (λ rows' j' h. h))
        (settles (settled_by (Some x) c given) _ _ (fail_to row x c.completion_code c.quiescent polled)
        (fail_both x c.completion_code c.quiescent) marked_too)
    judged_kept None c given =
        tested_kept c (settled_by None c given) (test_completion c given row.metadata.requested_length)
        (ap (λ (n : ℕ). tested_as (test_completion c given n) entry)
        (view_is row entry held is length_of))

    finish_at : (x : Result (Option BackendCompletion) OperationError) → FinishKept (polled_by x (length bytes) j) (poll_reply_at x i bytes quiet (memory store area))
    unfolding poll_reply_at changed_at judged
    finish_at (Ok None) = waits_for s store.rows j seen k InFlight.Nothing
    finish_at (Err e) = effects quiet store.rows (idle j) seen (waits_for s store.rows j seen k InFlight.Nothing) e
    finish_at (Ok (Some c)) = judged_kept c.error c (length bytes)

  pub finish_kept : (x : Result (Option BackendCompletion) OperationError) (bytes area : List ℕ) → FinishKept (polled_by x (length bytes) j) (poll_reply_of x bytes s (memory store area))
  finish_kept x bytes area =
      finish_all x bytes s (memory store area) (FinishKept (polled_by x (length bytes) j)) k k (λ id own i lt hit. finish_at id own i lt hit bytes area x)
