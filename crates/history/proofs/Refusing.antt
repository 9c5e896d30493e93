-- A refusal by 3 leaves whatever the call was handed as it was. Assumes nothing.
use Rattle.std.specs.Prelude.{Option, Some, None, Result, Ok, Err, ⊤}
use Prim.Native.Nat.{ℕ}
use mathlib.Core.Bool.{true, false, not, false≢true}
use mathlib.Core.List.{List, [], ◌∷◌, ◌++◌}
use mathlib.Core.Path.{◌≡◌, refl, sym, ap, ◌∙◌}
use borrow.Author.Tests.{not-true}
use lib.Dec.{eqb}
use lib.ListN.{length}
use Rattle.chain.specs.After.{After, after}
use Rattle.chain.proofs.Chain.{if_all}
use Rattle.models.specs.Refusals.{refusal_of}
use Rattle.models.specs.Said.{Tabled, refused, verdict_said}
use Rattle.models.specs.declared.{BackendCompletion.BackendCompletion, ControlPlan.ControlPlan, OperationError.OperationError, Refusal.Refusal, RequestId.RequestId, RequestReport.RequestReport}
use Rattle.models.proofs.Said.{every, tabled_number, tabled_in}
use Rattle.rows.specs.Store.{Store}
use Rattle.rows.specs.Table.{row_in}
use Rattle.rows.specs.declared.{Row.Row}
use Rattle.ledger.specs.Apply.{apply_by, changed_at}
use Rattle.ledger.specs.Said.{applied_said}
use Rattle.rules.specs.Rules.{change_row}
use Rattle.rules.specs.declared.Change as rules
use Rattle.rules.specs.declared.Change.TheVariants as change
use Rattle.bus.specs.Tables.{Bus}
use Rattle.bus.specs.Ports as bus
use Rattle.bus.specs.Endpoints as lists
use Rattle.checks.specs.Plan.{plan_of}
use Rattle.checks.specs.Prepare.{metadata_of}
use Rattle.targets.specs.Said.{target_numbers}
use Rattle.targets.specs.declared.{Readings.Readings}
use Rattle.targets.proofs.Said.{target_tabled}
use Rattle.session.specs.Session.{with_flight}
use Rattle.session.specs.Lifecycle.{open_of, acquired_by, acquire_of, initialized_by, initialize_of, closed_by, fresh_by, close_of}
use Rattle.session.specs.Place.{placed, set_device_of, set_port_of, set_endpoints_of, set_reconcile_of}
use Rattle.session.specs.Start.{guarded}
use Rattle.session.specs.Lent.{Lent, Memory}
use Rattle.session.specs.Sizes.{place_of}
use Rattle.session.specs.declared.{Called.Called, InFlight.InFlight, Recovery.Recovery, RecoveryKind.RecoveryKind, Session.Session, lifecycle.AcquireFailure.AcquireFailure, lifecycle.Opening.Opening}
use Rattle.reports.specs.Change.{reported_by, change_of}
use Rattle.polls.specs.Poll.{poll_of}
use Rattle.polls.specs.PollReply.{judged, settled, poll_reply_at, poll_reply_of}
use Rattle.polls.specs.declared.{PollAnswer.PollAnswer, poll_reply.Judgement.Judgement}
use Rattle.polls.proofs.Said.{judged_by_lem}
use Rattle.submissions.specs.Begin.{Draft, draft, target_of}
use Rattle.submissions.specs.Submit.{submitted_by, submit_of, Request}
use Rattle.submissions.specs.Plan.{plan_started, submit_plan_of}
use Rattle.submissions.specs.SubmitReply.{accepted_by, discarded_by, submit_reply_by, submit_reply_of}
use Rattle.submissions.specs.Said.{start_said}
use Rattle.submissions.proofs.Said.{target_of_lem}
use Rattle.recovery.specs.Recover.{begun_as, recover_of}
use Rattle.recovery.specs.RecoveryReply.{ReplyLists, ended, concluded_by, settled_of, recovery_reply_of}
use Rattle.recovery.specs.declared.{AbortReport.AbortReport, BackendAbort.BackendAbort}
use Rattle.recovery.specs.Said.{entry_numbers}
use Rattle.recovery.proofs.Said.{entries_tabled}
use Rattle.calls.specs.Answers.{of_submit, of_plan, of_recovery}
use Rattle.calls.specs.Calls.{Placing, Moving, Device, Port, Endpoints, Reconcile, Call, Open, Place, Move, Acquire, Initialize, Close, Begin, Submit, SubmitPlan, Poll, Recover, Reply, ToSubmit, ToPoll, ToRecovery, Change, Read}
use Rattle.calls.specs.Step.{World, step_of, opens, places, moves, submits, plans, reports, polls, finishes, begins, recovers, placed_of, moved_of, begun_of, replied_of, change_by, world_store, next}
use Rattle.calls.specs.declared.{Answer.Answer, Outcome.Outcome}
use Rattle.runs.proofs.Ways.{apply_all_lem, change_all, poll_all, begin_all, reply_all, finish_all, recovery_all}
use Rattle.runs.proofs.Stages.{submit_all, plan_all}
use Rattle.runs.proofs.Affected.{place_meant}
use Rattle.history.specs.Journal.{refusal_number}
use Rattle.rules.specs.declared.{Step.Step}
use Rattle.submissions.specs.declared.{begin.Start.Start}

no : (a : Answer) → eqb (refusal_number a) 3 ≡ false → a ≡ Answer.Refused (refusal_of 3) → ⊥
no a n e = false≢true (sym n ∙ ap (λ (y : Answer). eqb (refusal_number y) 3) e)

-- a refusal by a number of a list that has no 3
other : (ns : List ℕ) → every (λ n. not (eqb n 3)) ns ≡ true → (r : Refusal) → Tabled ns (refused r) → eqb r.number 3 ≡ false
other ns a r h = not-true _ (tabled_number (λ n. not (eqb n 3)) ns a r h)

abbrev start_numbers : List ℕ
start_numbers = target_numbers ++ 39 ∷ []

start_tabled : (d : Draft) (x : Readings) (s : Session) (l : Lent) → Tabled start_numbers (start_said (target_of d x s l).result.answer)
start_tabled d x s l = target_of_lem start_numbers refl d x s l (tabled_in start_numbers target_numbers refl _ (target_tabled d.metadata _ _ _ _))

-- ---- each call
module _ (w : World) where
  abbrev Stays : After Outcome Lent → Type 0
  Stays a = a.result.answer ≡ Answer.Refused (refusal_of 3) → next a ≡ w

  -- the session with nothing in flight
  abbrev quiet : Session
  quiet = with_flight w.session InFlight.Nothing

  abbrev Places : After (Result ⊤ Refusal) Bus → Type 0
  Places o = Stays (places o w)

  passed : {v : World} → Answer.Pass ≡ Answer.Refused (refusal_of 3) → v ≡ w
  passed e = absurd (no Answer.Pass refl e)

  placed_stays : (done : After (Result ⊤ Refusal) Bus) → Places done → Places (placed done w.session w.lent.bus)
  unfolding placed guarded
  placed_stays done k = if_all Places _ _ _ (λ e. refl) (if_all Places _ _ _ (λ e. refl) k)

  place_stays : (p : Placing) → Places (placed_of p w)
  unfolding placed_of set_device_of set_reconcile_of set_port_of bus.set_port bus.set_port_by set_endpoints_of lists.set_endpoints
  place_stays (Device d) = placed_stays _ passed
  place_stays (Reconcile slot mark) = placed_stays _ passed
  place_stays (Endpoints slot l) = placed_stays _ (if_all Places _ _ _ (λ e. refl) passed)
  place_stays (Port number row) = placed_stays _ (go (bus.number_checked w.session.ports number))
    where
      go : (v : Result ⊤ Refusal) → Places (bus.set_port_by v number row w.lent.bus)
      go (Err r) e = refl
      go (Ok tt) e = passed e

  open_stays : (o : Opening) → Stays (opens (open_of o w.lent) w)
  unfolding open_of
  open_stays o = if_all (λ (x : After (Result Session Refusal) Lent). Stays (opens x w)) _ _ _ (λ e. refl) passed

  -- ---- the lifecycle
  abbrev Moves : After (Called ⊤) Store → Type 0
  Moves c = Stays (moves c w)

  abbrev Calls : Called ⊤ → Type 0
  Calls c = Moves (after c (world_store w))

  move_stays : (x : Moving) → Moves (moved_of x w)
  unfolding moved_of acquire_of acquired_by initialize_of initialized_by close_of guarded fresh_by closed_by
  move_stays (Acquire x) = if_all Calls _ _ _ (λ e. refl) (if_all Calls _ _ _ (λ e. refl) (go x))
    where
      go : (x : Result ⊤ AcquireFailure) → Calls (acquired_by x w.session)
      go (Ok tt) = passed
      go (Err x) = if_all Calls _ _ _ (λ e. absurd (no _ refl e)) (λ e. refl)
  move_stays (Initialize x) = if_all Calls _ _ _ (λ e. refl) (if_all Calls _ _ _ (λ e. refl) (go x))
    where
      go : (x : Option OperationError) → Calls (initialized_by x w.session)
      go None = passed
      go (Some y) = λ e. absurd (no _ refl e)
  move_stays (Close n x) = if_all Moves _ _ _ (λ e. refl) (if_all Moves _ _ _ (λ e. refl) (if_all Moves _ _ _ passed (go n x)))
    where
      go : (n : Option ℕ) (x : Option OperationError) → Moves (fresh_by n x w.session (world_store w))
      go None x = λ e. refl
      go (Some fresh) (Some y) = λ e. absurd (no _ refl e)
      go (Some fresh) None = passed

  -- ---- submissions
  submit_stays : (packets : List ℕ) (q : Request) → Stays (submits (submit_of packets q w.session w.lent))
  unfolding submitted_by
  submit_stays packets q =
      submit_all q w.session w.lent (λ o. Stays (submits o)) (λ x early e. refl)
      (λ i room size.
      let d : Draft = draft (place_of w.session.size i) (metadata_of q.spec) q.bytes in
      let o : After (Called Start) Lent = target_of d q.readings w.session w.lent in
      by_start o.result.answer (start_tabled d q.readings w.session w.lent) o.result.session _)
      packets
    where
      by_start : (o : Result Start Refusal) → Tabled start_numbers (start_said o) → (s : Session) (v : World) → of_submit (submitted_by o s (metadata_of q.spec) q.given).answer ≡ Answer.Refused (refusal_of 3) → v ≡ w
      by_start (Err r) h s v e = absurd (no (Answer.Refused r) (other start_numbers refl r h) e)
      by_start (Ok x) h s v e = absurd (no _ refl e)

  plan_stays : (q : ControlPlan) (bytes : List ℕ) (one : Result ℕ OperationError) → Stays (plans (submit_plan_of q bytes one w.session w.lent))
  unfolding plan_started
  plan_stays q bytes one =
      plan_all q bytes one w.session w.lent (λ o. Stays (plans o)) (λ x early e. refl)
      (λ i room size.
      let d : Draft = draft (place_of w.session.size i) (plan_of q).metadata bytes in
      let x : Readings = record { first = one; second = one } in
      let o : After (Called Start) Lent = target_of d x w.session w.lent in
      by_start o.result.answer (start_tabled d x w.session w.lent) o.result.session _)
    where
      by_start : (o : Result Start Refusal) → Tabled start_numbers (start_said o) → (s : Session) (v : World) → of_plan (plan_started o s (plan_of q)).answer ≡ Answer.Refused (refusal_of 3) → v ≡ w
      by_start (Err r) h s v e = absurd (no (Answer.Refused r) (other start_numbers refl r h) e)
      by_start (Ok x) h s v e = absurd (no _ refl e)

  -- ---- the reply to a submission; cancel, timeout and reclaim
  abbrev Tells : After (Called RequestReport) Store → Type 0
  Tells o = Stays (reports o w)

  reply_stays : (x : Result ℕ OperationError) → Tells (submit_reply_of x w.session (world_store w))
  unfolding submit_reply_by accepted_by discarded_by apply_by
  reply_stays x = reply_all x w.session (world_store w) Tells (λ e. refl) (λ e. refl) (λ id own. by_reply x id)
    where
      by_token : (m : Result Step Refusal) (i : ℕ) → Tells (after (accepted_by (apply_by m i (world_store w)).result w.session) (apply_by m i (world_store w)).lent)
      by_token (Err r) i = λ e. refl
      by_token (Ok x) i = λ e. absurd (no _ refl e)

      by_error : (y : OperationError) (m : Result Step Refusal) (i : ℕ) → Tells (after (discarded_by (apply_by m i (world_store w)).result y w.session) (apply_by m i (world_store w)).lent)
      by_error y (Err r) i = λ e. refl
      by_error y (Ok n) i = λ e. absurd (no _ refl e)

      by_reply : (x : Result ℕ OperationError) (id : RequestId) → Tells (submit_reply_by x id w.session (world_store w))
      by_reply (Ok token) id =
          apply_all_lem id (change.Accept token) (world_store w) (λ a. Tells (after (accepted_by a.result w.session) a.lent)) (λ e. refl) (λ i lt hit. by_token (change_row (row_in (world_store w).rows i) (change.Accept token)) i)
      by_reply (Err y) id =
          apply_all_lem id change.Discard (world_store w) (λ a. Tells (after (discarded_by a.result y w.session) a.lent)) (λ e. refl) (λ i lt hit. by_error y (change_row (row_in (world_store w).rows i) change.Discard) i)

  change_stays : (id : RequestId) (c : rules.Change) → Tells (change_of id c w.session (world_store w))
  unfolding reported_by apply_by
  change_stays id c = change_all id c w.session (world_store w) Tells (λ x e. refl) (λ idle i lt hit. by_step (change_row (row_in (world_store w).rows i) c) i)
    where
      by_step : (m : Result Step Refusal) (i : ℕ) → Tells (after (reported_by (apply_by m i (world_store w)).result w.session) (apply_by m i (world_store w)).lent)
      by_step (Err r) i = λ e. refl
      by_step (Ok x) i = λ e. absurd (no _ refl e)

  -- ---- polls
  poll_stays : (id : RequestId) → Stays (polls (poll_of id w.session (world_store w)) w)
  poll_stays id =
      poll_all id w.session (world_store w) (λ o. Stays (polls o w)) (λ x e. refl) (λ i e. absurd (no _ refl e)) (λ i lt hit p r e. absurd (no _ refl e))

  abbrev Finishes : After (Called RequestReport) Memory → Type 0
  Finishes o = Stays (finishes o w)

  finish_stays : (x : Result (Option BackendCompletion) OperationError) (bytes : List ℕ) → Finishes (poll_reply_of x bytes w.session w.lent.memory)
  unfolding poll_reply_at judged settled
  finish_stays x bytes = finish_all x bytes w.session w.lent.memory Finishes (λ e. refl) (λ e. refl) (λ id own i lt hit. by_reply x i)
    where
      by_answer : (a : Result RequestReport Refusal) (left : Store) → Tabled (41 ∷ []) (applied_said a) → (j : Judgement) (i : ℕ)
          → Finishes (settled (after a left) j i bytes quiet w.lent.memory.area)
      by_answer (Err r) left h j i = λ e. absurd (no (Answer.Refused r) (other (41 ∷ []) refl r h) e)
      by_answer (Ok y) left h j i = λ e. absurd (no _ refl e)

      by_reply : (x : Result (Option BackendCompletion) OperationError) (i : ℕ) → Finishes (poll_reply_at x i bytes quiet w.lent.memory)
      by_reply (Ok None) i = λ e. absurd (no _ refl e)
      by_reply (Err y) i = λ e. absurd (no _ refl e)
      by_reply (Ok (Some c)) i =
          let r = row_in (world_store w).rows i in
          let j = judged quiet r c (length bytes) in
          let o = changed_at i j.change (world_store w) in
          by_answer o.result o.lent (judged_by_lem quiet (world_store w) i c r c.error (length bytes)) j i

  -- ---- recoveries
  begin_stays : (id : RequestId) (q : RecoveryKind) → Stays (begins (recover_of id q w.session (world_store w)) w)
  unfolding begun_as
  begin_stays id q =
      begin_all id q w.session (world_store w) (λ o. Stays (begins o w)) (λ n z e. refl) (λ i lt hit m e. refl) (λ i lt hit a m e. absurd (no _ refl e))

  concluded : (v : Result ⊤ Refusal) → Tabled entry_numbers (verdict_said v) → (y : Recovery) (o : BackendAbort) (report : AbortReport) (places : List ℕ) (rows : List Row) (left : World)
      → of_recovery (concluded_by v (ended quiet y o) report places rows).answer ≡ Answer.Refused (refusal_of 3) → left ≡ w
  unfolding concluded_by
  concluded (Err x) h y o report places rows left e = absurd (no (Answer.Refused x) (other entry_numbers refl x h) e)
  concluded (Ok tt) h y o report places rows left e = absurd (no _ refl e)

  recovery_stays : (r : Result BackendAbort OperationError) (l : ReplyLists) → Stays (recovers (recovery_reply_of r l w.session w.lent.memory) w)
  unfolding settled_of
  recovery_stays r l =
      recovery_all l w.session w.lent.memory (λ o. Stays (recovers o w)) (λ e. refl) (λ e. refl) (λ e. refl) (λ x e. absurd (no _ refl e)) (λ e. absurd (no _ refl e))
      (λ y own o n. concluded _ (entries_tabled w.session.size (place_meant y.device y.endpoint (world_store w).rows) l w.lent.memory) y o _ _ _ _) r

pub refused_untouched : (c : Call) (w : World) → (step_of c w).result.answer ≡ Answer.Refused (refusal_of 3) → next (step_of c w) ≡ w
unfolding step_of begun_of replied_of
refused_untouched (Open o) w = open_stays w o
refused_untouched (Place p) w = place_stays w p
refused_untouched (Move m) w = move_stays w m
refused_untouched (Begin (Submit packets q)) w = submit_stays w packets q
refused_untouched (Begin (SubmitPlan q)) w = plan_stays w q.plan q.bytes q.reading
refused_untouched (Begin (Poll id)) w = poll_stays w id
refused_untouched (Begin (Recover id kind)) w = begin_stays w id kind
refused_untouched (Reply (ToSubmit reply)) w = reply_stays w reply
refused_untouched (Reply (ToPoll reply bytes)) w = finish_stays w reply bytes
refused_untouched (Reply (ToRecovery reply lists)) w = recovery_stays w reply lists
refused_untouched (Change id c) w = change_stays w id (change_by c)
refused_untouched (Read r) w = λ e. refl
