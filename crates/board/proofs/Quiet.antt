-- Between events no submission waits for its reply: by the journal, which holds what waits. Assumes nothing.
use Rattle.std.specs.Prelude.{Result, Ok, Err, Option, Some, None}
use Prim.Native.Nat.{ℕ}
use mathlib.Core.Bool.{Bool, true, false, cond}
use mathlib.Core.List.{List, [], ◌∷◌, ◌++◌, append-nil, append_assoc}
use mathlib.Core.Path.{◌≡◌, refl, sym, ap, ◌∙◌, subst}
use native.Mathlib.Omega.{arith}
use lib.ListN.{length}
use borrow.Author.Tests.{lt-ltb}
use Rattle.chain.specs.After.{After}
use Rattle.chain.specs.Chain.{◌if◌else◌}
use Rattle.chain.specs.Lists.{count, any_in, found_in}
use Rattle.chain.proofs.Chain.{if_all}
use Rattle.chain.proofs.Lists.{count_pos}
use Rattle.models.specs.declared.{BackendCompletion.BackendCompletion, OperationError.OperationError, Refusal.Refusal, RequestId.RequestId, RequestReport.RequestReport}
use Rattle.models.specs.declared.RequestState.TheVariants.{Pending}
use Rattle.rows.specs.Table.{empty_row, row_in}
use Rattle.rows.specs.Store.{Store}
use Rattle.rows.specs.declared.{Row.Row}
use Rattle.rules.specs.Rules.{accepted, moved, change_row}
use Rattle.ledger.specs.Apply.{apply_by, changed_at, apply_at, apply_of}
use Rattle.ledger.specs.Search.{is_at}
use Rattle.session.specs.Lent.{Lent, store_fits}
use Rattle.session.specs.declared.{InFlight.InFlight, Recovery.Recovery, Session.Session}
use Rattle.session.specs.declared.RecoveryKind.TheVariants.{Abort}
use Rattle.reports.specs.Status.{is_submitting}
use Rattle.polls.specs.Poll.{poll_of}
use Rattle.submissions.specs.Submit.{submit_of}
use Rattle.submissions.specs.SubmitReply.{accepted_by, submit_reply_by, submit_reply_in, submit_reply_of}
use Rattle.submissions.specs.declared.{Submission.Submission}
use Rattle.recovery.specs.Recover.{recover_of}
use Rattle.recovery.specs.RecoveryReply.{ReplyLists, reply_lists}
use Rattle.calls.specs.Answers.{of_submit, of_poll, of_report, of_begin, is_asked, is_recovering, begun_id}
use Rattle.calls.specs.Calls.{Call, Begin, Submit, Poll, Recover, Reply, ToPoll, ToRecovery, Changing, Change, Cancel, Timeout, Reclaim}
use Rattle.calls.specs.Step.{World, world_store, change_by, begun_of, replied_of, step_of, next, made_after, made_on}
use Rattle.calls.specs.declared.{Answer.Answer, Outcome.Outcome}
use Rattle.reports.specs.Change.{change_of}
use Rattle.runs.specs.Run.{own, is_opening, number_of, is_new, end_of}
use Rattle.runs.specs.Sound.{Sound, InFlightAt, FlightSound}
use Rattle.runs.proofs.Held.{any_count}
use Rattle.runs.proofs.Ids.{same_self}
use Rattle.runs.proofs.Run.{SoundIn, FittedIn, left_leads}
use Rattle.history.specs.Journal.{Journal, ends_by, counts_by, begun_by, polled_by, poll_waits, released_in, recovery_waits, recovered_journal, journal_step}
use Rattle.history.proofs.Steps.{step_kept}
use Rattle.history.proofs.Theorem.{Holds}
use Rattle.paper.specs.declared.{PaperEvent.PaperEvent}
use Rattle.paper_session.specs.Start.{start_on, blank_lent}
use Rattle.paper_session.proofs.Started.{start_placed, blank_fits}
use Rattle.marking.specs.Marking.{event_request, event_id, event_call, event_reply, event_bytes, ready_reply, affected_tokens, reply_calls, event_calls}
use Rattle.board.specs.Board.{opened, paper_run}
use Rattle.board.proofs.Calls.{paper_sound, paper_fits, paper_holds, paper_made, made_more}
use Rattle.polls.specs.declared.{PollAnswer.PollAnswer}
use Rattle.recovery.specs.declared.{BackendAbort.BackendAbort}

abbrev Free : InFlight → Type 0
Free f = (id : RequestId) → is_submitting f id ≡ false

abbrev pub FreeIn : World → Type 0
FreeIn w = Free w.session.in_flight

-- ---- a submission that waits is ended by its token
module _ (s : Session) (store : Store) (sound : Sound s store) (fits : store_fits s.size store ≡ true) (x : RequestId) (waits : s.in_flight ≡ InFlight.Submission x)
    (t : ℕ) where
  waits_at : InFlightAt store.rows x (λ y. y ≡ Pending false false)
  waits_at = subst (λ (f : InFlight). FlightSound f store.rows) waits sound.flight

  some_row : any_in (is_at x) store.rows ≡ true
  unfolding is_at
  some_row =
      let k = waits_at in
      let hit : is_at x (row_in store.rows k.index) ≡ true = rw (k.used, k.own) (same_self x) in
      any_count (is_at x) store.rows empty_row
      ∙ lt-ltb 0 (count (is_at x) store.rows) (count_pos (is_at x) store.rows k.index empty_row k.below hit)

  token_by : (f : InFlight) → f ≡ InFlight.Submission x → Free (submit_reply_in f (Ok t) s store).result.session.in_flight
  unfolding submit_reply_in submit_reply_by apply_of apply_at changed_at apply_by change_row accepted moved accepted_by found_in ◌if◌else◌
  token_by f e = rw (e, fits, some_row) (λ id. refl)

  token_ends : Free (submit_reply_of (Ok t) s store).result.session.in_flight
  unfolding submit_reply_of
  token_ends = token_by s.in_flight waits

-- ---- any other call leaves none that waits
cond_free : (b : Bool) (p q : Journal) → Free p.waiting → Free q.waiting → Free (cond b p q).waiting
cond_free true p q f g = f
cond_free false p q f g = g

polled_free : (r : Result (Option BackendCompletion) OperationError) (given : ℕ) (j : Journal) → Free (polled_by r given j).waiting
polled_free (Ok None) given j id = refl
polled_free (Err x) given j id = refl
polled_free (Ok (Some c)) given j id = refl

recovered_free : (a : Answer) (l : ReplyLists) (j : Journal) → Free j.waiting → Free (recovered_journal a l j).waiting
recovered_free a l j f =
    cond_free (ends_by a) (record { entries = cond (counts_by a) (released_in j.waiting l j.entries) j.entries; waiting = InFlight.Nothing }) j (λ id. refl) f

module _ (w : World) (sound : SoundIn w) (j : Journal) (seen : List ℕ) (k : Holds w j seen) where
  by_journal : (c : Call) → is_opening c ≡ false → is_new (number_of c) seen ≡ true → Free (journal_step c (step_of c w).result.answer j).waiting → FreeIn (next (step_of c w))
  by_journal c first new f = subst Free (step_kept w sound j seen k c first new).agree f

  module _ (free : FreeIn w) where
    kept_free : Free j.waiting
    kept_free = subst Free (sym k.agree) free

    poll_free : (id : RequestId) → FreeIn (next (step_of (Begin (Poll id)) w))
    unfolding journal_step
    poll_free id = by_journal (Begin (Poll id)) refl refl (cond_free (is_asked (step_of (Begin (Poll id)) w).result.answer) (poll_waits id j) j (λ x. refl) kept_free)

    recover_free : (id : RequestId) → FreeIn (next (step_of (Begin (Recover id Abort)) w))
    unfolding journal_step
    recover_free id =
        by_journal (Begin (Recover id Abort)) refl refl
        (cond_free (is_recovering (step_of (Begin (Recover id Abort)) w).result.answer) (recovery_waits id Abort j) j (λ x. refl) kept_free)

    change_free : (id : RequestId) (c : Changing) → FreeIn (next (step_of (Change id c) w))
    unfolding journal_step
    change_free id c = by_journal (Change id c) refl refl kept_free

    poll_reply_free : (reply : Result (Option BackendCompletion) OperationError) (bytes : List ℕ) → FreeIn (next (step_of (Reply (ToPoll reply bytes)) w))
    unfolding journal_step
    poll_reply_free reply bytes =
        by_journal (Reply (ToPoll reply bytes)) refl refl
        (cond_free (ends_by (step_of (Reply (ToPoll reply bytes)) w).result.answer) (polled_by reply (length bytes) j) j (polled_free reply (length bytes) j) kept_free)

    recovery_reply_free : (reply : Result BackendAbort OperationError) (l : ReplyLists) → FreeIn (next (step_of (Reply (ToRecovery reply l)) w))
    unfolding journal_step
    recovery_reply_free reply l =
        by_journal (Reply (ToRecovery reply l)) refl refl (recovered_free (step_of (Reply (ToRecovery reply l)) w).result.answer l j kept_free)

    -- the reply, to what a call opened that is no submission
    replies_free : (e : PaperEvent) (rows : List Row) (a : Answer) → ((x : Submission) → a ≡ Answer.Begun x → ⊥) → (o : After Outcome Lent) → next o ≡ w
        → FreeIn (next (made_after (reply_calls a e rows) o))
    unfolding reply_calls
    replies_free e rows (Answer.Refused r) n o is = subst FreeIn (sym is) free
    replies_free e rows Answer.Pass n o is = subst FreeIn (sym is) free
    replies_free e rows (Answer.Begun x) n o is = absurd (n x refl)
    replies_free e rows (Answer.PlanBegun x) n o is = subst FreeIn (sym is) free
    replies_free e rows (Answer.Report x) n o is = subst FreeIn (sym is) free
    replies_free e rows Answer.NoReport n o is = subst FreeIn (sym is) free
    replies_free e rows (Answer.Asked token) n o is =
        subst (λ (z : World). FreeIn (next (step_of (Reply (ToPoll (event_reply e) (event_bytes e))) z))) (sym is) (poll_reply_free (event_reply e) (event_bytes e))
    replies_free e rows (Answer.Number x) n o is = subst FreeIn (sym is) free
    replies_free e rows (Answer.Bytes p) n o is = subst FreeIn (sym is) free
    replies_free e rows (Answer.Recovering x) n o is =
        let l = reply_lists [] [] (affected_tokens x rows) [] in
        subst (λ (z : World). FreeIn (next (step_of (Reply (ToRecovery ready_reply l)) z))) (sym is) (recovery_reply_free ready_reply l)
    replies_free e rows (Answer.Recovered x) n o is = subst FreeIn (sym is) free

-- ---- after an event
poll_other : (y : Result PollAnswer Refusal) (x : Submission) → of_poll y ≡ Answer.Begun x → ⊥
poll_other (Err r) x e = let z : ◌≡◌ {A = ℕ} 0 1 = cc in absurd (omega arith)
poll_other (Ok (PollAnswer.Report r)) x e = let z : ◌≡◌ {A = ℕ} 0 1 = cc in absurd (omega arith)
poll_other (Ok (PollAnswer.Asked t)) x e = let z : ◌≡◌ {A = ℕ} 0 1 = cc in absurd (omega arith)

report_other : (y : Result RequestReport Refusal) (x : Submission) → of_report y ≡ Answer.Begun x → ⊥
report_other (Err r) x e = let z : ◌≡◌ {A = ℕ} 0 1 = cc in absurd (omega arith)
report_other (Ok r) x e = let z : ◌≡◌ {A = ℕ} 0 1 = cc in absurd (omega arith)

begin_other : (y : Result Recovery Refusal) (x : Submission) → of_begin y ≡ Answer.Begun x → ⊥
begin_other (Err r) x e = let z : ◌≡◌ {A = ℕ} 0 1 = cc in absurd (omega arith)
begin_other (Ok r) x e = let z : ◌≡◌ {A = ℕ} 0 1 = cc in absurd (omega arith)

module _ (e : PaperEvent) (w : World) (sound : SoundIn w) (fitted : FittedIn w) (j : Journal) (seen : List ℕ) (k : Holds w j seen) (free : FreeIn w) where
  -- a first call with the reply to what it opened
  abbrev Ends : Call → Type 0
  Ends c = FreeIn (made_on (c ∷ reply_calls (step_of c w).result.answer e (world_store w).rows) w)

  then_free : (c : Call) → is_opening c ≡ false → is_new (number_of c) seen ≡ true → FreeIn (next (step_of c w))
      → ((x : Submission) → (step_of c w).result.answer ≡ Answer.Begun x → ⊥) → Ends c
  then_free c first new f other =
      replies_free (next (step_of c w)) (left_leads own c w sound first).sound _ _ (step_kept w sound j seen k c first new) f e (world_store w).rows
      (step_of c w).result.answer other (step_of c w) refl

  poll_ends : (id : RequestId) → Ends (Begin (Poll id))
  unfolding step_of begun_of
  poll_ends id = then_free (Begin (Poll id)) refl refl (poll_free w sound j seen k free id) (poll_other (poll_of id w.session (world_store w)).answer)

  recover_ends : (id : RequestId) → Ends (Begin (Recover id Abort))
  unfolding step_of begun_of
  recover_ends id =
      then_free (Begin (Recover id Abort)) refl refl (recover_free w sound j seen k free id) (begin_other (recover_of id Abort w.session (world_store w)).answer)

  change_ends : (id : RequestId) (c : Changing) → Ends (Change id c)
  unfolding step_of
  change_ends id c =
      then_free (Change id c) refl refl (change_free w sound j seen k free id c) (report_other (change_of id (change_by c) w.session (world_store w)).result.answer)

  -- a submission, by its answer
  abbrev first : Call
  first = Begin (Submit [] (event_request e))

  abbrev left : World
  left = next (step_of first w)

  abbrev waits_by : Result Submission Refusal → InFlight
  waits_by y = (begun_by (begun_id (of_submit y)) (event_request e).spec.device (event_request e).spec.endpoint (event_request e).spec.length j).waiting

  submitted : (y : Result Submission Refusal) → y ≡ (submit_of [] (event_request e) w.session w.lent).result.answer
      → FreeIn (next (made_after (reply_calls (of_submit y) e (world_store w).rows) (step_of first w)))
  unfolding step_of begun_of replied_of reply_calls journal_step
  submitted (Err r) is = by_journal w sound j seen k first refl refl (subst (λ (y : Result Submission Refusal). Free (waits_by y)) is (subst Free (sym k.agree) free))
  submitted (Ok x) is =
      let leads = left_leads own first w sound refl in
      let waits : left.session.in_flight ≡ InFlight.Submission x.id = sym (step_kept w sound j seen k first refl refl).agree ∙ ap waits_by (sym is) in
      token_ends left.session (world_store left) leads.sound (leads.fitted fitted).fits x.id waits x.id.sequence

  submit_ends : Ends first
  unfolding step_of begun_of
  submit_ends = submitted (submit_of [] (event_request e) w.session w.lent).result.answer refl

  call_ends : Ends (event_call e)
  unfolding event_call
  call_ends =
      if_all Ends _ _ _ submit_ends (if_all Ends _ _ _ (poll_ends (event_id e)) (if_all Ends _ _ _ (change_ends (event_id e) Cancel)
      (if_all Ends _ _ _ (change_ends (event_id e) Timeout) (if_all Ends _ _ _ (change_ends (event_id e) Reclaim) (recover_ends (event_id e))))))

  event_free : FreeIn (made_on (event_calls e w) w)
  unfolding event_calls
  event_free = if_all (λ (cs : List Call). FreeIn (made_on cs w)) _ _ _ free call_ends

-- ---- after any events
start_free : FreeIn (end_of opened (paper_run []))
start_free =
    subst FreeIn (sym (paper_made [])) (subst (λ (s : Session). Free s.in_flight) (sym (start_placed blank_lent blank_fits).session) (λ id. refl))

more_free : (before es : List PaperEvent) → FreeIn (end_of opened (paper_run before)) → FreeIn (end_of opened (paper_run (before ++ es)))
more_free before [] f = rw (append-nil before) f
more_free before (e ∷ es) f =
    let w : World = end_of opened (paper_run before) in
    let h = paper_holds before in
    let is : end_of opened (paper_run (before ++ (e ∷ []))) ≡ made_on (event_calls e w) w =
    paper_made (before ++ (e ∷ [])) ∙ made_more before e (start_on blank_lent) ∙ ap (λ (z : World). made_on (event_calls e z) z) (sym (paper_made before)) in
    subst (λ (l : List PaperEvent). FreeIn (end_of opened (paper_run l))) (append_assoc before (e ∷ []) es)
    (more_free (before ++ (e ∷ [])) es (subst FreeIn (sym is) (event_free e w (paper_sound before) (paper_fits before) _ h.0 h.1 f)))

pub paper_free : (es : List PaperEvent) → FreeIn (end_of opened (paper_run es))
paper_free es = more_free [] es start_free
