-- One law for each way out of an event's calls: its premises are the facts in hand there. Assumes nothing.
use Rattle.std.specs.Prelude.{Option, Some, None, Result, Ok, Err}
use Prim.Native.Nat.{ℕ, ◌+◌, ◌-◌, ◌<◌, ◌≤◌, min}
use native.Mathlib.Omega.{arith}
use mathlib.Core.Bool.{Bool, true, false}
use mathlib.Core.List.{List, []}
use mathlib.Core.Path.{◌≡◌, refl, sym, ap, ◌∙◌}
use lib.Dec.{eqb}
use lib.ListN.{length, take, replicate, length-map, length-replicate, replicate-append-replicate}
use lib.Seq.{take_at}
use borrow.Author.Tests.{eq-eqb, ne_eqb}
use Rattle.chain.specs.After.{After, after}
use Rattle.chain.specs.Chain.{◌if◌else◌}
use Rattle.chain.specs.Lists.{found_in}
use Rattle.chain.proofs.Chain.{chain, if_all, takes, passes, caseB}
use Rattle.chain.proofs.Listed.{listed-take}
use Rattle.models.specs.declared.{BackendCompletion.BackendCompletion, OperationError.OperationError, Refusal.Refusal, RequestId.RequestId, RequestReport.RequestReport}
use Rattle.rows.specs.Store.{Store}
use Rattle.rows.specs.Table.{token_in}
use Rattle.rows.specs.declared.{Row.Row}
use Rattle.rules.specs.declared.Change.TheVariants as change
use Rattle.scope.specs.Affected.{affected_of, tokens_of}
use Rattle.scope.proofs.affected.Laws.{affected_most}
use Rattle.bus.specs.Tables.{Bus}
use Rattle.session.specs.Lent.{Memory, Lent, memory, lent}
use Rattle.session.specs.declared.{Called.Called, Recovery.Recovery, RecoveryKind.RecoveryKind, Session.Session}
use Rattle.session.specs.declared.RecoveryKind.TheVariants.{Abort}
use Rattle.session.proofs.Said.{guarded_all}
use Rattle.ledger.specs.Search.{is_at}
use Rattle.reports.specs.Change.{change_of}
use Rattle.submissions.specs.Submit.{submit_of}
use Rattle.submissions.specs.SubmitReply.{submit_reply_of}
use Rattle.submissions.specs.declared.{Submission.Submission}
use Rattle.polls.specs.Poll.{poll_of}
use Rattle.polls.specs.PollReply.{poll_reply_of}
use Rattle.recovery.specs.Recover.{begin_refused, begun_as, begin_row, recover_by, recover_of}
use Rattle.recovery.specs.RecoveryReply.{reply_lists, recovery_reply_of}
use Rattle.recovery.specs.declared.{BackendAbort.BackendAbort, Begun.Begun, Replied.Replied}
use Rattle.calls.specs.Answers.{outcome, of_submit, of_poll, of_report, of_begin, of_recovery}
use Rattle.calls.specs.Calls.{Call, Begin, Submit, Poll, Recover, Changing, Change, Cancel, Timeout, Reclaim}
use Rattle.calls.specs.Step.{World, world, world_store, submits, polls, reports, begins, change_by, begun_of, replied_of, step_of, made_after, made_on}
use Rattle.calls.specs.declared.{Answer.Answer, Outcome.Outcome}
use Rattle.calls.specs.Said.{answer_said}
use Rattle.paper.specs.Form.{is_damaged}
use Rattle.paper.specs.declared.{PaperEvent.PaperEvent}
use Rattle.marking.specs.Marking.{event_request, event_id, event_call, event_reply, event_bytes, ready_reply, affected_tokens, reply_calls, event_calls, leaves, marked_as, marked_by, calls_marked, event_marked}
use Rattle.marking.specs.declared.{Marked.Marked}
use Rattle.polls.specs.declared.{PollAnswer.PollAnswer}

-- an event's calls start with the first, whose answer a is b
marks_by : (e : PaperEvent) (w : World) (c : Call) (a b : Answer) (s : Session) (l : Lent) (x : After Marked Lent) → c ≡ event_call e
    → after (outcome a s) l ≡ step_of c w → a ≡ b → x ≡ marked_by (after (outcome b s) l) e (world_store w).rows → x ≡ calls_marked e w
unfolding calls_marked
marks_by e w c a b s l x ec eo ea h =
    let rows = (world_store w).rows in
    h
    ∙ ap (λ (z : Answer). marked_by (after (outcome z s) l) e rows) (sym ea)
    ∙ ap (λ (z : After Outcome Lent). marked_by z e rows) (eo ∙ ap (λ (z : Call). step_of z w) ec)

-- what is marked of an outcome
outcome_marks : (id : Option RequestId) (o x : Outcome) (l : Lent) (r : Marked) → o ≡ x → r ≡ leaves (answer_said o.answer).number id o.session
    → after r l ≡ marked_as id (after x l)
outcome_marks id o x l r eo er = rw (er, eo)

-- a kind above m is not m
other : (n m : ℕ) → m < n → eqb n m ≡ false
other n m h = ne_eqb n m (λ z. omega arith)

-- ---- kind 0
module _ (e : PaperEvent) (s : Session) (l next : Lent) (k : e.kind ≡ 0) (done : Called Submission)
    (h : after done next ≡ submit_of [] (event_request e) s l) where
  -- the first call
  submitting : Begin (Submit [] (event_request e)) ≡ event_call e
  unfolding event_call
  submitting = search chain depth 20

  -- its answer is a
  submitted : (x : After Marked Lent) (a : Result Submission Refusal) → done.answer ≡ a
      → x ≡ marked_by (after (outcome (of_submit a) done.session) next) e (world_store (world s l)).rows → x ≡ calls_marked e (world s l)
  unfolding step_of begun_of
  submitted x a ea ex =
      marks_by e (world s l) (Begin (Submit [] (event_request e))) (of_submit done.answer) (of_submit a) done.session next x submitting (ap submits h) (ap of_submit ea) ex

  -- refused: no id is shown
  pub submit_refused_lem : (r : Refusal) → done.answer ≡ Err r → after (leaves r.number None done.session) next ≡ calls_marked e (world s l)
  unfolding marked_by reply_calls
  submit_refused_lem r ea = submitted _ (Err r) ea (rw (eq-eqb e.kind 0 k))

-- and its reply
module _ (e : PaperEvent) (s : Session) (l : Lent) (b : Bus) (store left : Store) (area : List ℕ) (k : e.kind ≡ 0) (done : Called Submission)
    (h : after done (lent b (memory store area)) ≡ submit_of [] (event_request e) s l) where
  -- begun: the id that it was given is shown
  pub submit_begun : (x : Submission) (y : Called RequestReport) (o : Outcome) (r : Marked) → done.answer ≡ Ok x
      → after y left ≡ submit_reply_of (Ok x.id.sequence) done.session store
      → o ≡ outcome (of_report y.answer) y.session → r ≡ leaves (answer_said o.answer).number (Some x.id) o.session
      → after r (lent b (memory left area)) ≡ calls_marked e (world s l)
  unfolding marked_by reply_calls step_of replied_of
  submit_begun x y o r ea ey eo er =
      submitted e s l (lent b (memory store area)) k done h _ (Ok x) ea
      (outcome_marks (Some x.id) o _ (lent b (memory left area)) r eo er
      ∙ rw (eq-eqb e.kind 0 k) (ap (λ (z : After (Called RequestReport) Store). marked_as (Some x.id)
      (after (outcome (of_report z.result.answer) z.result.session) (lent b (memory z.lent area)))) ey))

-- ---- kind 1
-- the first of a list of one value
take_same : {A : Type 0} (x : A) (n m : ℕ) → n ≤ m → take n (replicate m x) ≡ replicate n x
take_same x n m h =
    let z : n + (m - n) ≡ m = omega arith in
    rw (← z, ← replicate-append-replicate n (m - n) x) (take_at (replicate n x) (replicate (m - n) x) n (length-replicate n x))

-- the reply is the event's
pub poll_replied : (e : PaperEvent) (s : Session) (m left : Memory) (y : Called RequestReport) (reply : Result (Option BackendCompletion) OperationError) (n : ℕ)
    → after y left ≡ poll_reply_of reply (take n (replicate 256 0)) s m → reply ≡ event_reply e → n ≡ min e.length 256
    → after y left ≡ poll_reply_of (event_reply e) (event_bytes e) s m
poll_replied e s m left y reply n h er en = h ∙ rw (er, take_same {A = ℕ} 0 n 256 (omega arith), en)

module _ (e : PaperEvent) (s : Session) (m : Memory) (k : e.kind ≡ 1) (id : RequestId) (ei : id ≡ event_id e)
    (done : Called PollAnswer) (h : done ≡ poll_of id s m.store) where
  -- no submission
  polled_kind : eqb e.kind 0 ≡ false
  polled_kind = other e.kind 0 (omega arith)

  -- the first call
  polling : Begin (Poll id) ≡ event_call e
  unfolding event_call
  polling = let k0 = polled_kind in rw ei (search chain depth 20)

  -- its answer is a
  polled : (b : Bus) (x : After Marked Lent) (a : Result PollAnswer Refusal) → done.answer ≡ a
      → x ≡ marked_by (after (outcome (of_poll a) done.session) (lent b m)) e m.store.rows → x ≡ calls_marked e (world s (lent b m))
  unfolding step_of begun_of
  polled b x a ea ex =
      let w = world s (lent b m) in
      marks_by e w (Begin (Poll id)) (of_poll done.answer) (of_poll a) done.session (lent b m) x polling (ap (λ (z : Called PollAnswer). polls z w) h) (ap of_poll ea) ex

  -- refused
  pub poll_refused_lem : (r : Refusal) → done.answer ≡ Err r → (b : Bus)
      → after (leaves r.number (Some id) done.session) (lent b m) ≡ calls_marked e (world s (lent b m))
  unfolding marked_by reply_calls
  poll_refused_lem r ea b = polled b _ (Err r) ea (rw (polled_kind, ei))

  -- reported, and asked for nothing
  pub poll_told : (x : RequestReport) → done.answer ≡ Ok (PollAnswer.Report x) → (b : Bus)
      → after (leaves 0 (Some id) done.session) (lent b m) ≡ calls_marked e (world s (lent b m))
  unfolding marked_by reply_calls
  poll_told x ea b = polled b _ (Ok (PollAnswer.Report x)) ea (rw (polled_kind, ei))

  -- and the reply that it asked for
  pub poll_asked : (token : ℕ) (y : Called RequestReport) (left : Memory) (o : Outcome) (r : Marked) → done.answer ≡ Ok (PollAnswer.Asked token)
      → after y left ≡ poll_reply_of (event_reply e) (event_bytes e) done.session m
      → o ≡ outcome (of_report y.answer) y.session → r ≡ leaves (answer_said o.answer).number (Some id) o.session → (b : Bus)
      → after r (lent b left) ≡ calls_marked e (world s (lent b m))
  unfolding marked_by reply_calls step_of replied_of
  poll_asked token y left o r ea ey eo er b =
      polled b _ (Ok (PollAnswer.Asked token)) ea
      (outcome_marks (Some id) o _ (lent b left) r eo er
      ∙ rw (polled_kind, ei) (ap (λ (z : After (Called RequestReport) Memory). marked_as (Some (event_id e))
      (after (outcome (of_report z.result.answer) z.result.session) (lent b z.lent))) ey))

-- ---- kinds 2 to 4
-- a change has no reply
no_reply : (a : Result RequestReport Refusal) (e : PaperEvent) (rows : List Row) → reply_calls (of_report a) e rows ≡ []
unfolding reply_calls
no_reply (Err r) e rows = refl
no_reply (Ok x) e rows = refl

module _ (e : PaperEvent) (s : Session) (store left : Store) (k : (1 < e.kind) × (e.kind ≤ 4)) (id : RequestId) (ei : id ≡ event_id e)
    (y : Called RequestReport) (o : Outcome) (eo : o ≡ outcome (of_report y.answer) y.session)
    (r : Marked) (er : r ≡ leaves (answer_said o.answer).number (Some id) o.session) where
  -- whatever the bus and the area
  abbrev Marks : Type 0
  Marks = (b : Bus) (area : List ℕ) → after r (lent b (memory left area)) ≡ calls_marked e (world s (lent b (memory store area)))

  -- no submission
  changed_kind : eqb e.kind 0 ≡ false
  changed_kind = other e.kind 0 (omega arith)

  -- the change is the only call
  changed : (c : Changing) → Change id c ≡ event_call e → after y left ≡ change_of id (change_by c) s store → Marks
  unfolding step_of marked_by
  changed c ec ey b area =
      let w = world s (lent b (memory store area)) in
      let a = of_report y.answer in
      let l = lent b (memory left area) in
      marks_by e w (Change id c) a a y.session l _ ec (ap (λ (z : After (Called RequestReport) Store). reports z w) ey) refl
      (outcome_marks (Some id) o _ l r eo er
      ∙ rw (ei, changed_kind) (ap (λ (z : List Call). marked_as (Some (event_id e)) (made_after z (after (outcome a y.session) l))) (sym (no_reply y.answer e store.rows))))

  -- kind 2
  pub cancel_marks : e.kind ≡ 2 → after y left ≡ change_of id change.LogicalCancel s store → Marks
  unfolding event_call
  cancel_marks n h =
      let k0 = changed_kind in let k1 = other e.kind 1 (omega arith) in
      changed Cancel (rw ei (search chain depth 20)) h

  -- kind 3
  pub timeout_marks : e.kind ≡ 3 → after y left ≡ change_of id change.Timeout s store → Marks
  unfolding event_call
  timeout_marks n h =
      let k0 = changed_kind in let k1 = other e.kind 1 (omega arith) in let k2 = other e.kind 2 (omega arith) in
      changed Timeout (rw ei (search chain depth 20)) h

  -- kind 4
  pub reclaim_marks : (e.kind ≡ 2 → ⊥) → (e.kind ≡ 3 → ⊥) → after y left ≡ change_of id change.Reclaim s store → Marks
  unfolding event_call
  reclaim_marks n2 n3 h =
      let k0 = changed_kind in let k1 = other e.kind 1 (omega arith) in let k4 : e.kind ≡ 4 = omega arith in
      changed Reclaim (rw ei (search chain depth 20)) h

-- ---- kind 5
-- what a recovery that began lists are the affected tokens
abbrev ListsAffected : List Row → Begun → Type 0
ListsAffected rows y = (x : Recovery) → y.answer ≡ Ok x → take y.count y.tokens ≡ affected_tokens x rows

-- refused, there is nothing to list
refused_lists : (rows : List Row) (s : Session) (r : Refusal) → ListsAffected rows (begin_refused s r)
refused_lists rows s r x e = let z : ◌≡◌ {A = ℕ} 0 1 = cc in absurd (omega arith)

-- begun, all of them
begun_lists_lem : (rows : List Row) (s : Session) (x : Recovery) → ListsAffected rows (begun_as x s rows)
unfolding begun_as
begun_lists_lem rows s x y e =
    let l = affected_of x.device x.endpoint rows in
    let same : x ≡ y = cc in
    listed-take 128 0 (tokens_of rows l) (length l) (sym (length-map l (token_in rows))) (affected_most x.device x.endpoint rows)
    ∙ ap (λ (z : Recovery). affected_tokens z rows) same

-- of the row that was found, or none
row_lists : (f : Option ℕ) (id : RequestId) (q : RecoveryKind) (s : Session) (rows : List Row) → ListsAffected rows (recover_by f id q s rows)
unfolding recover_by begin_row
row_lists None id q s rows = refused_lists rows s _
row_lists (Some i) id q s rows =
    if_all (ListsAffected rows) _ _ _ (refused_lists rows s _) (if_all (ListsAffected rows) _ _ _ (refused_lists rows s _) (begun_lists_lem rows s _))

-- of a whole recovery
recover_lists : (id : RequestId) (q : RecoveryKind) (s : Session) (store : Store) → ListsAffected store.rows (recover_of id q s store)
unfolding recover_of
recover_lists id q s store =
    let rows = store.rows in
    guarded_all (ListsAffected rows) s _ _ _ (refused_lists rows s _) (refused_lists rows s _) (row_lists (found_in (is_at id) rows) id q s rows)

module _ (e : PaperEvent) (s : Session) (m : Memory) (k : 4 < e.kind) (id : RequestId) (ei : id ≡ event_id e)
    (done : Begun) (h : done ≡ recover_of id Abort s m.store) where
  -- no submission
  aborted_kind : eqb e.kind 0 ≡ false
  aborted_kind = other e.kind 0 (omega arith)

  -- the first call
  aborting : Begin (Recover id Abort) ≡ event_call e
  unfolding event_call
  aborting =
      let n = e.kind in
      let k0 = aborted_kind in let k1 = other n 1 (omega arith) in let k2 = other n 2 (omega arith) in
      let k3 = other n 3 (omega arith) in let k4 = other n 4 (omega arith) in
      rw ei (search chain depth 20)

  -- its answer is a
  aborted : (b : Bus) (x : After Marked Lent) (a : Result Recovery Refusal) → done.answer ≡ a
      → x ≡ marked_by (after (outcome (of_begin a) done.session) (lent b m)) e m.store.rows → x ≡ calls_marked e (world s (lent b m))
  unfolding step_of begun_of
  aborted b x a ea ex =
      let w = world s (lent b m) in
      marks_by e w (Begin (Recover id Abort)) (of_begin done.answer) (of_begin a) done.session (lent b m) x aborting (ap (λ (z : Begun). begins z w) h) (ap of_begin ea) ex

  -- refused
  pub abort_refused : (r : Refusal) → done.answer ≡ Err r → (b : Bus)
      → after (leaves r.number (Some id) done.session) (lent b m) ≡ calls_marked e (world s (lent b m))
  unfolding marked_by reply_calls
  abort_refused r ea b = aborted b _ (Err r) ea (rw (aborted_kind, ei))

  -- and the reply to it
  pub abort_begun : (x : Recovery) (y : Replied) (left : Memory) (o : Outcome) (r : Marked) → done.answer ≡ Ok x
      → after y left ≡ recovery_reply_of ready_reply (reply_lists [] [] (take done.count done.tokens) []) done.session m
      → o ≡ outcome (of_recovery y.answer) y.session → r ≡ leaves (answer_said o.answer).number (Some id) o.session → (b : Bus)
      → after r (lent b left) ≡ calls_marked e (world s (lent b m))
  unfolding marked_by reply_calls step_of replied_of
  abort_begun x y left o r ea ey eo er b =
      let told : ListsAffected m.store.rows done = rw h (recover_lists id Abort s m.store) in
      let same = ap (λ (l : List ℕ). recovery_reply_of ready_reply (reply_lists [] [] l []) done.session m) (told x ea) in
      aborted b _ (Ok x) ea
      (outcome_marks (Some id) o _ (lent b left) r eo er
      ∙ rw (aborted_kind, ei) (ap (λ (z : After Replied Memory). marked_as (Some (event_id e))
      (after (outcome (of_recovery z.result.answer) z.result.session) (lent b z.lent))) (ey ∙ same)))

-- ---- any kind
-- 57: no call is made
module _ (e : PaperEvent) (s : Session) (l : Lent) (b : Bool) (test : b ≡ is_damaged e) where
  pub damaged_marks : b ≡ true → after (leaves 57 None s) l ≡ event_marked e (world s l)
  unfolding event_marked
  damaged_marks t = takes _ _ _ _ _ (sym test ∙ t) refl

  pub calls_mark : (r : Marked) (left : Lent) → b ≡ false → after r left ≡ calls_marked e (world s l) → after r left ≡ event_marked e (world s l)
  unfolding event_marked
  calls_mark r left t h = passes _ _ _ _ _ (sym test ∙ t) h

-- what is marked is what the event's calls leave
pub marked_made : (e : PaperEvent) (w : World) → world (event_marked e w).result.session (event_marked e w).lent ≡ made_on (event_calls e w) w
unfolding event_marked calls_marked marked_by event_calls ◌if◌else◌
marked_made e w = caseB (is_damaged e) (λ d. rw d) (λ d. rw d)

module _ (e : PaperEvent) (s : Session) (r : Marked) (b : Bus) where
  -- whatever the bus
  pub memory_marks : (m left : Memory) → ((o : Bus) → after r (lent o left) ≡ calls_marked e (world s (lent o m)))
      → after r (lent b left) ≡ calls_marked e (world s (lent b m))
  memory_marks m left h = h b

  -- whatever the bus and the area
  pub rows_mark : (store left : Store) (area : List ℕ)
      → ((o : Bus) (u : List ℕ) → after r (lent o (memory left u)) ≡ calls_marked e (world s (lent o (memory store u))))
      → after r (lent b (memory left area)) ≡ calls_marked e (world s (lent b (memory store area)))
  rows_mark store left area h = h b area
