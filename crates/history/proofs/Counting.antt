-- An id is handed over as often as it has entries. Assumes nothing.
use Rattle.std.specs.Prelude.{Option, Some, None, Result, Ok, Err, ⊤}
use Prim.Native.Nat.{ℕ, ◌+◌}
use mathlib.Core.Bool.{false, cond, true≢false}
use mathlib.Core.List.{List, [], ◌∷◌}
use mathlib.Core.Path.{◌≡◌, refl, ap}
use native.Mathlib.Omega.{arith}
use lib.ListN.{length, take, drop}
use Rattle.chain.specs.Lists.{only, count}
use Rattle.chain.proofs.Chain.{caseB}
use Rattle.models.specs.Refusals.{refusal_of}
use Rattle.models.specs.Requests.{same_request}
use Rattle.models.specs.declared.{BackendCompletion.BackendCompletion, DeviceId.DeviceId, OperationError.OperationError, Refusal.Refusal, RequestId.RequestId, RequestReport.RequestReport}
use Rattle.checks.specs.Completion.{test_completion}
use Rattle.checks.specs.Plan.{stage_of}
use Rattle.session.specs.Lifecycle.{acquire_of, initialize_of, close_of}
use Rattle.session.specs.declared.{InFlight.InFlight, Recovery.Recovery, RecoveryKind.RecoveryKind}
use Rattle.reports.specs.Change.{change_of}
use Rattle.reports.specs.Status.{status_of, next_of, shown_count, completed_part, held_count_of, tally_of, held_bytes_of}
use Rattle.polls.specs.PollReply.{poll_reply_of}
use Rattle.polls.specs.Poll.{poll_of}
use Rattle.submissions.specs.Submit.{submit_of}
use Rattle.submissions.specs.Plan.{submit_plan_of}
use Rattle.submissions.specs.SubmitReply.{submit_reply_of}
use Rattle.scope.specs.Returned.{Returned, read_returned}
use Rattle.recovery.specs.Recover.{recover_of}
use Rattle.recovery.specs.RecoveryReply.{ReplyLists, recovery_reply_of}
use Rattle.calls.specs.Answers.{of_verdict, of_submit, of_plan, of_report, of_poll, of_next, of_tally, of_part, of_begin, of_recovery, begun_id, is_asked, is_pass, is_recovering}
use Rattle.calls.specs.Calls.{Reading, Status, Reports, CountReports, CompletedBytes, HeldCount, HeldBytes, Call, Open, Place, Move, Acquire, Initialize, Close, Begin, Submit, SubmitPlan, Poll, Recover, Reply, ToSubmit, ToPoll, ToRecovery, Change, Read}
use Rattle.calls.specs.Step.{World, step_of, placed_of, moved_of, begun_of, replied_of, change_by, read_of, world_store}
use Rattle.calls.specs.declared.{Answer.Answer}
use Rattle.runs.specs.Run.{Handed, Event, is_opening, left_by, answer_to, history_of, Handing, Follows, beside}
use Rattle.runs.proofs.Handings.{by_handed}
use Rattle.history.specs.Journal.{Entry, Journal, View, is_entry, at_entry, release, ends_by, counts_by, begun_by, accepted_as, tested_as, settled_by, at_waiting, polled_by, ReleasedTo, completes_by, completes_all, aborts_all, releases_all, released_in, recovery_waits, recovered_journal, journal_step, journal_of}
use Rattle.history.specs.Claim.{is_begun, hands_over}
use Rattle.history.proofs.Changes.{closed_ids}
use Rattle.reports.specs.declared.{Part.Part}
use Rattle.recovery.specs.declared.{AbortReport.AbortReport}
use Rattle.checks.specs.declared.{completion.CompletionFault.CompletionFault, completion.ValidCompletion.ValidCompletion}
use Rattle.polls.specs.declared.{PollAnswer.PollAnswer}

-- a refusal by 3 adds nothing to the journal
pub refused_3 : (c : Call) (j : Journal) → journal_step c (Answer.Refused (refusal_of 3)) j ≡ j
unfolding journal_step
refused_3 (Open o) j = refl
refused_3 (Place p) j = refl
refused_3 (Move (Acquire reply)) j = refl
refused_3 (Move (Initialize reply)) j = refl
refused_3 (Move (Close fresh reply)) j = refl
refused_3 (Begin (Submit packets q)) j = refl
refused_3 (Begin (SubmitPlan q)) j = refl
refused_3 (Begin (Poll id)) j = refl
refused_3 (Begin (Recover id kind)) j = refl
refused_3 (Reply (ToSubmit reply)) j = refl
refused_3 (Reply (ToPoll reply bytes)) j = refl
refused_3 (Reply (ToRecovery reply lists)) j = refl
refused_3 (Change id c) j = refl
refused_3 (Read r) j = refl

module _ (x : RequestId) where
  abbrev number : List Entry → ℕ
  number l = count (is_entry x) l

  -- ---- entries change, their ids do not
  alike : (e f : Entry) → f.view.id ≡ e.view.id → only (is_entry x) (λ y. 1) f ≡ only (is_entry x) (λ y. 1) e
  alike e f h = ap (λ (i : RequestId). cond {A = ℕ} (same_request i x) 1 0) h

  at_ids : (id : RequestId) (f : Entry → Entry) → ((e : Entry) → (f e).view.id ≡ e.view.id) → (l : List Entry) → number (at_entry id f l) ≡ number l
  at_ids id f h [] = refl
  at_ids id f h (e ∷ es) =
      let ih = at_ids id f h es in
      let a = alike e (f e) (h e) in
      caseB (is_entry id e) (λ y. rw y (omega (arith, a))) (λ y. rw y (omega (arith, ih)))

  accepted_id : (r : Result ℕ OperationError) (e : Entry) → (accepted_as r e).view.id ≡ e.view.id
  accepted_id (Ok t) e = refl
  accepted_id (Err y) e = refl

  tested_id : (t : Result ValidCompletion CompletionFault) (e : Entry) → (tested_as t e).view.id ≡ e.view.id
  tested_id (Ok v) e = refl
  tested_id (Err CompletionFault.MissingLength) e = refl
  tested_id (Err CompletionFault.Invalid) e = refl

  settled_id : (o : Option OperationError) (c : BackendCompletion) (given : ℕ) (e : Entry) → (settled_by o c given e).view.id ≡ e.view.id
  settled_id (Some y) c given e = caseB c.quiescent (λ q. rw q) (λ q. rw q)
  settled_id None c given e = tested_id (test_completion c given e.view.requested) e

  waiting_ids : (w : InFlight) (f : Entry → Entry) → ((e : Entry) → (f e).view.id ≡ e.view.id) → (l : List Entry) → number (at_waiting w f l) ≡ number l
  waiting_ids InFlight.Nothing f h l = refl
  waiting_ids (InFlight.Submission id) f h l = at_ids id f h l
  waiting_ids (InFlight.Poll id) f h l = at_ids id f h l
  waiting_ids (InFlight.Recovery y) f h l = refl

  polled_ids : (r : Result (Option BackendCompletion) OperationError) (given : ℕ) (j : Journal) → number (polled_by r given j).entries ≡ number j.entries
  polled_ids (Ok None) given j = refl
  polled_ids (Err y) given j = refl
  polled_ids (Ok (Some c)) given j = waiting_ids j.waiting (settled_by c.error c given) (λ e. settled_id c.error c given e) j.entries

  begun_ids : (o : Option RequestId) (d : DeviceId) (endpoint size : ℕ) (j : Journal)
      → number (begun_by o d endpoint size j).entries ≡ number j.entries + cond (is_begun x o) 1 0
  begun_ids None d endpoint size j = omega arith
  begun_ids (Some id) d endpoint size j = omega arith

  -- ---- a recovery's entries
  completes_by_lem : (p : Result ValidCompletion CompletionFault) (v : View) (l : List Entry) → number (completes_by p v l).entries ≡ number l
  completes_by_lem (Err CompletionFault.MissingLength) v l = refl
  completes_by_lem (Err CompletionFault.Invalid) v l = refl
  completes_by_lem (Ok vs) v l =
      let e = at_ids v.id release (λ y. refl) l in
      caseB v.failed (λ y. rw y (omega (arith, e))) (λ y. rw y (omega (arith, e)))

  completes_ids : (view : ℕ → View) (rs : List Returned) (bytes : List ℕ) (l : List Entry) → number (completes_all view rs bytes l).entries ≡ number l
  completes_ids view [] bytes l = refl
  completes_ids view (r ∷ rs) bytes l =
      let p : (Result ValidCompletion CompletionFault) = test_completion r.brought.completion (length (take r.brought.given bytes)) (view r.token).requested in
      let q : ReleasedTo = completes_by p (view r.token) l in
      let e = completes_by_lem p (view r.token) l in
      let rest = completes_ids view rs (drop r.brought.given bytes) q.entries in
      caseB q.refused (λ y. rw y (omega (arith, e, rest))) (λ y. rw y (omega (arith, e, rest)))

  aborts_ids : (view : ℕ → View) (ts : List ℕ) (l : List Entry) → number (aborts_all view ts l) ≡ number l
  aborts_ids view [] l = refl
  aborts_ids view (t ∷ ts) l =
      omega (arith, aborts_ids view ts (at_entry (view t).id release l), at_ids (view t).id release (λ e. refl) l)

  releases_ids : (view : ℕ → View) (r : ReplyLists) (l : List Entry) → number (releases_all view r l) ≡ number l
  releases_ids view r l =
      let rs : List Returned = read_returned r.tokens r.completions in
      let q : ReleasedTo = completes_all view rs r.bytes l in
      let e = completes_ids view rs r.bytes l in
      let rest = aborts_ids view r.aborted q.entries in
      caseB q.refused (λ y. rw y (omega (arith, e, rest))) (λ y. rw y (omega (arith, e, rest)))

  released_ids : (w : InFlight) (r : ReplyLists) (l : List Entry) → number (released_in w r l) ≡ number l
  released_ids InFlight.Nothing r l = refl
  released_ids (InFlight.Submission id) r l = refl
  released_ids (InFlight.Poll id) r l = refl
  released_ids (InFlight.Recovery y) r l = releases_ids _ r l

  recovered_ids : (a : Answer) (r : ReplyLists) (j : Journal) → number (recovered_journal a r j).entries ≡ number j.entries
  recovered_ids a r j =
      let k = released_ids j.waiting r j.entries in
      caseB (ends_by a) (λ e. rw e (caseB (counts_by a) (λ y. rw y k) (λ y. rw y))) (λ e. rw e)

  -- ---- a call other than a submission hands nothing over
  verdict_still : (a : Result ⊤ Refusal) (n m : ℕ) → m ≡ n → m ≡ n + cond (is_begun x (begun_id (of_verdict a))) 1 0
  verdict_still (Err r) n m e = omega (arith, e)
  verdict_still (Ok tt) n m e = omega (arith, e)

  report_still : (a : Result RequestReport Refusal) (n m : ℕ) → m ≡ n → m ≡ n + cond (is_begun x (begun_id (of_report a))) 1 0
  report_still (Err r) n m e = omega (arith, e)
  report_still (Ok y) n m e = omega (arith, e)

  poll_still : (a : Result PollAnswer Refusal) (n m : ℕ) → m ≡ n → m ≡ n + cond (is_begun x (begun_id (of_poll a))) 1 0
  poll_still (Err r) n m e = omega (arith, e)
  poll_still (Ok (PollAnswer.Report y)) n m e = omega (arith, e)
  poll_still (Ok (PollAnswer.Asked token)) n m e = omega (arith, e)

  next_report_still : (a : Result (Option RequestReport) Refusal) (n m : ℕ) → m ≡ n → m ≡ n + cond (is_begun x (begun_id (of_next a))) 1 0
  next_report_still (Err r) n m e = omega (arith, e)
  next_report_still (Ok None) n m e = omega (arith, e)
  next_report_still (Ok (Some y)) n m e = omega (arith, e)

  tally_still : (a : Result ℕ Refusal) (n m : ℕ) → m ≡ n → m ≡ n + cond (is_begun x (begun_id (of_tally a))) 1 0
  tally_still (Err r) n m e = omega (arith, e)
  tally_still (Ok y) n m e = omega (arith, e)

  begin_ids : (a : Result Recovery Refusal) (id : RequestId) (q : RecoveryKind) (j : Journal)
      → number (cond (is_recovering (of_begin a)) (recovery_waits id q j) j).entries ≡ number j.entries + cond (is_begun x (begun_id (of_begin a))) 1 0
  begin_ids (Err r) id q j = omega arith
  begin_ids (Ok y) id q j = omega arith

  recovery_still : (a : Result AbortReport Refusal) (n m : ℕ) → m ≡ n → m ≡ n + cond (is_begun x (begun_id (of_recovery a))) 1 0
  recovery_still (Err r) n m e = omega (arith, e)
  recovery_still (Ok y) n m e = omega (arith, e)

  part_still : (a : Result Part Refusal) (n m : ℕ) → m ≡ n → m ≡ n + cond (is_begun x (begun_id (of_part a))) 1 0
  part_still (Err r) n m e = omega (arith, e)
  part_still (Ok p) n m e = omega (arith, e)

  read_still : (r : Reading) (w : World) (n : ℕ) → n ≡ n + cond (is_begun x (begun_id (read_of r w))) 1 0
  unfolding read_of
  read_still (Status id) w n = report_still (status_of id w.session (world_store w)) n n refl
  read_still (Reports from) w n = next_report_still (next_of from w.session (world_store w)) n n refl
  read_still CountReports w n = tally_still (shown_count w.session (world_store w)) n n refl
  read_still (CompletedBytes id) w n = part_still (completed_part id (length w.lent.memory.area) w.session (world_store w)) n n refl
  read_still HeldCount w n = tally_still (tally_of (held_count_of w.session (world_store w))) n n refl
  read_still HeldBytes w n = tally_still (held_bytes_of w.session (world_store w)) n n refl

  step_ids : (c : Call) (w : World) (j : Journal) → is_opening c ≡ false
      → number (journal_step c (step_of c w).result.answer j).entries ≡ number j.entries + cond (is_begun x (begun_id (step_of c w).result.answer)) 1 0
  unfolding step_of moved_of begun_of replied_of journal_step
  step_ids (Open o) w j f = absurd (true≢false f)
  step_ids (Place p) w j f = verdict_still (placed_of p w).result _ _ refl
  step_ids (Move (Acquire reply)) w j f = verdict_still (acquire_of reply w.session).answer _ _ refl
  step_ids (Move (Initialize reply)) w j f = verdict_still (initialize_of reply w.session).answer _ _ refl
  step_ids (Move (Close fresh reply)) w j f =
      let a : (Result ⊤ Refusal) = (close_of fresh reply w.session (world_store w)).result.answer in
      verdict_still a _ _ (let c = closed_ids x j.entries in caseB (is_pass (of_verdict a)) (λ e. rw e (omega (arith, c))) (λ e. rw e))
  step_ids (Begin (Submit packets q)) w j f =
      begun_ids (begun_id (of_submit (submit_of packets q w.session w.lent).result.answer)) q.spec.device q.spec.endpoint q.spec.length j
  step_ids (Begin (SubmitPlan q)) w j f =
      begun_ids (begun_id (of_plan (submit_plan_of q.plan q.bytes q.reading w.session w.lent).result.answer)) q.plan.device 0
      (stage_of q.plan.data_stage q.plan.setup.request_type).length j
  step_ids (Begin (Poll id)) w j f =
      let a : (Result PollAnswer Refusal) = (poll_of id w.session (world_store w)).answer in
      poll_still a _ _ (caseB (is_asked (of_poll a)) (λ e. rw e) (λ e. rw e))
  step_ids (Begin (Recover id kind)) w j f = begin_ids (recover_of id kind w.session (world_store w)).answer id kind j
  step_ids (Reply (ToSubmit reply)) w j f =
      let a : (Result RequestReport Refusal) = (submit_reply_of reply w.session (world_store w)).result.answer in
      report_still a _ _ (caseB (ends_by (of_report a)) (λ e. rw e (waiting_ids j.waiting (accepted_as reply) (λ y. accepted_id reply y) j.entries)) (λ e. rw e))
  step_ids (Reply (ToPoll reply bytes)) w j f =
      let a : (Result RequestReport Refusal) = (poll_reply_of reply bytes w.session w.lent.memory).result.answer in
      report_still a _ _ (caseB (ends_by (of_report a)) (λ e. rw e (polled_ids reply (length bytes) j)) (λ e. rw e))
  step_ids (Reply (ToRecovery reply lists)) w j f =
      let a : (Result AbortReport Refusal) = (recovery_reply_of reply lists w.session w.lent.memory).result.answer in
      recovery_still a _ _ (recovered_ids (of_recovery a) lists j)
  step_ids (Change id c) w j f = report_still (change_of id (change_by c) w.session (world_store w)).result.answer _ _ refl
  step_ids (Read r) w j f = read_still r w (number j.entries)

  event_ids : (h : Handed) (c : Call) (w : World) (j : Journal) → Handing h c
      → number (journal_step c (answer_to w (record { call = c; handed = h })) j).entries
      ≡ number j.entries + cond (is_begun x (begun_id (answer_to w (record { call = c; handed = h })))) 1 0
  event_ids h c w j f =
      let z : number (journal_step c (Answer.Refused (refusal_of 3)) j).entries ≡ number j.entries = ap (λ (y : Journal). number y.entries) (refused_3 c j) in
      by_handed h c w (λ a v. number (journal_step c a j).entries ≡ number j.entries + cond (is_begun x (begun_id a)) 1 0) f
      (λ first bus area. step_ids c (beside bus area w) j first) (omega (arith, z))

  pub handed_over : (es : List Event) (w : World) (j : Journal) → Follows es
      → count (hands_over x) (history_of w es) + number j.entries ≡ number (journal_of (history_of w es) j).entries
  handed_over [] w j f = omega arith
  handed_over (e ∷ es) w j f =
      let one = event_ids e.handed e.call w j f.0 in
      let rest = handed_over es (left_by e.handed e.call w) (journal_step e.call (answer_to w e) j) f.1 in
      omega (arith, one, rest)
