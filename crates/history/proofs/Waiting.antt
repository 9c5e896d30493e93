-- No row changes between a recovery's start and the reply that ends it. Assumes nothing.
use Rattle.std.specs.Prelude.{Result}
use Prim.Native.Nat.{ℕ, ◌≤◌}
use mathlib.Core.Bool.{Bool, cond, false, true≢false}
use mathlib.Core.List.{List, [], ◌∷◌, ◌++◌}
use mathlib.Core.Path.{◌≡◌, refl, sym, ap, ◌∙◌, subst}
use native.Mathlib.Omega.{arith}
use Rattle.chain.specs.Chain.{◌if◌else◌}
use Rattle.chain.specs.After.{After, after}
use Rattle.chain.proofs.Chain.{if_by}
use Rattle.chain.specs.Lists.{count}
use Rattle.models.specs.declared.{OperationError.OperationError, RequestId.RequestId}
use Rattle.rows.specs.Store.{Store}
use Rattle.rows.specs.Table.{is_held}
use Rattle.session.specs.Session.{is_busy}
use Rattle.session.specs.Lifecycle.{acquire_of, initialize_of, close_of}
use Rattle.session.specs.Place.{placed, set_device_of, set_port_of, set_endpoints_of, set_reconcile_of}
use Rattle.session.specs.Lent.{Lent, Memory}
use Rattle.session.specs.declared.{InFlight.InFlight, Recovery.Recovery, RecoveryKind.RecoveryKind, Session.Session, lifecycle.Opening.Opening}
use Rattle.reports.specs.Change.{change_of}
use Rattle.polls.specs.Poll.{poll_of}
use Rattle.session.specs.Start.{guarded}
use Rattle.polls.specs.PollReply.{poll_reply_in, poll_reply_of}
use Rattle.submissions.specs.Admit.{admit_of, admit_plan_of}
use Rattle.submissions.specs.Submit.{submit_by, submit_of}
use Rattle.submissions.specs.SubmitReply.{submit_reply_in, submit_reply_of}
use Rattle.submissions.specs.Plan.{submit_plan_by, submit_plan_of}
use Rattle.recovery.specs.Recover.{recover_of}
use Rattle.recovery.specs.RecoveryReply.{ReplyLists, recovery_reply_of}
use Rattle.recovery.specs.declared.{BackendAbort.BackendAbort, Replied.Replied}
use Rattle.calls.specs.Answers.{of_recovery, is_recovering}
use Rattle.calls.specs.Calls.{Call, Open, Place, Device, Port, Endpoints, Reconcile, Move, Acquire, Initialize, Close, Begin, Submit, SubmitPlan, Poll, Recover, Reply, ToSubmit, ToPoll, ToRecovery, Change, Read}
use Rattle.calls.specs.Step.{World, step_of, places, moves, submits, plans, reports, polls, finishes, begins, recovers, placed_of, moved_of, begun_of, replied_of, world_store, next}
use Rattle.calls.specs.declared.{Answer.Answer, Outcome.Outcome}
use Rattle.runs.specs.Run.{Handed, Event, left_by, end_of, answer_to, history_of, is_opening, Handing, Follows, Fresh, beside}
use Rattle.runs.proofs.Ways.{recovery_all}
use Rattle.runs.proofs.Run.{sound_open, sound_run}
use Rattle.runs.proofs.Handings.{by_handed, follows_at, follows_front, follows_on, fresh_front, end_append}
use Rattle.history.specs.Journal.{Entry, Journal, ends_by, recovery_waits, journal_of, blank}
use Rattle.history.specs.Claim.{returns, rows_after, starts}
use Rattle.history.proofs.Led.{Led}
use Rattle.history.proofs.Recovery.{begin_kept, begin_names}
use Rattle.history.proofs.Theorem.{opened_holds, run_kept}
use Rattle.history.proofs.Never.{settled_ends}

-- ---- a call while a recovery waits
module _ (w : World) (entries : List Entry) (few : count is_held (world_store w).rows ≤ 128) (k : Led (world_store w).rows entries) (x : Recovery)
    (own : w.session.in_flight ≡ InFlight.Recovery x) where
  abbrev Same : After Outcome Lent → Type 0
  Same a = next a ≡ w

  -- 1
  refused_1 : {O : Type 0} (P : O → Type 0) (a b : O) → P a → P (a if is_busy w.session.in_flight else b)
  refused_1 P a b h = if_by P a (is_busy w.session.in_flight) b (λ y. h) (λ y. absurd (true≢false (sym (ap is_busy own) ∙ y)))

  -- its own reply, refused by 3 or 49
  reply_same : (r : Result BackendAbort OperationError) (l : ReplyLists) → ends_by (of_recovery (recovery_reply_of r l w.session w.lent.memory).result.answer) ≡ false
      → Same (recovers (recovery_reply_of r l w.session w.lent.memory) w)
  reply_same r l =
      recovery_all l w.session w.lent.memory (λ (o : After Replied Memory). ends_by (of_recovery o.result.answer) ≡ false → Same (recovers o w))
      (λ e. refl) (λ e. refl) (λ e. refl) (λ y e. absurd (true≢false e)) (λ e. absurd (true≢false e))
      (λ y on o n e. absurd (true≢false (sym (settled_ends w.session w.lent.memory entries few k l y o n).0 ∙ e))) r

  pub stays : (c : Call) → is_opening c ≡ false → ((r : Result BackendAbort OperationError) (l : ReplyLists) → c ≡ Reply (ToRecovery r l) → ends_by (step_of c w).result.answer ≡ false)
      → Same (step_of c w)
  unfolding step_of placed_of moved_of begun_of replied_of set_device_of set_port_of set_endpoints_of set_reconcile_of placed guarded acquire_of initialize_of close_of admit_of submit_by submit_of admit_plan_of submit_plan_by submit_plan_of submit_reply_of submit_reply_in poll_of poll_reply_of poll_reply_in recover_of change_of
  stays (Open o) f n = absurd (true≢false f)
  stays (Place (Device d)) f n = refused_1 (λ o. Same (places o w)) _ _ refl
  stays (Place (Port number row)) f n = refused_1 (λ o. Same (places o w)) _ _ refl
  stays (Place (Endpoints slot list)) f n = refused_1 (λ o. Same (places o w)) _ _ refl
  stays (Place (Reconcile slot mark)) f n = refused_1 (λ o. Same (places o w)) _ _ refl
  stays (Move (Acquire reply)) f n = refused_1 (λ o. Same (moves (after o (world_store w)) w)) _ _ refl
  stays (Move (Initialize reply)) f n = refused_1 (λ o. Same (moves (after o (world_store w)) w)) _ _ refl
  stays (Move (Close fresh reply)) f n = refused_1 (λ o. Same (moves o w)) _ _ refl
  stays (Begin (Submit packets q)) f n = refused_1 (λ a. Same (submits (submit_by a q w.session w.lent))) _ _ refl
  stays (Begin (SubmitPlan q)) f n = refused_1 (λ a. Same (plans (submit_plan_by a q.bytes q.reading w.session w.lent))) _ _ refl
  stays (Begin (Poll id)) f n = refused_1 (λ o. Same (polls o w)) _ _ refl
  stays (Begin (Recover id kind)) f n = refused_1 (λ o. Same (begins o w)) _ _ refl
  stays (Reply (ToSubmit reply)) f n = subst (λ (g : InFlight). Same (reports (submit_reply_in g reply w.session (world_store w)) w)) (sym own) refl
  stays (Reply (ToPoll reply bytes)) f n = subst (λ (g : InFlight). Same (finishes (poll_reply_in g reply bytes w.session w.lent.memory) w)) (sym own) refl
  stays (Reply (ToRecovery r l)) f n = reply_same r l (n r l refl)
  stays (Change id c) f n = refused_1 (λ o. Same (reports o w)) _ _ refl
  stays (Read r) f n = refl

-- ---- a list of calls while it waits
-- no reply of a recovery ends its operation
abbrev pub Unended : World → List Event → Type 0
Unended w es = (before after : List Event) (h : Handed) (r : Result BackendAbort OperationError) (l : ReplyLists)
    → es ≡ before ++ (returns r l h ∷ after) → ends_by (answer_to (end_of w before) (returns r l h)) ≡ false

-- the session and the rows are the same
abbrev pub Kept : World → World → Type 0
Kept w v = (v.session ≡ w.session) × (world_store v ≡ world_store w)

abbrev InFlightIs : World → Recovery → Type 0
InFlightIs w x = w.session.in_flight ≡ InFlight.Recovery x

event_stays : (h : Handed) (c : Call) (w : World) (entries : List Entry) → count is_held (world_store w).rows ≤ 128 → Led (world_store w).rows entries → (x : Recovery)
    → InFlightIs w x → Handing h c → ((r : Result BackendAbort OperationError) (l : ReplyLists) → c ≡ Reply (ToRecovery r l) → ends_by (answer_to w (record { call = c; handed = h })) ≡ false)
    → Kept w (left_by h c w)
event_stays h c w entries few k x own f =
    by_handed h c w (λ a v. ((r : Result BackendAbort OperationError) (l : ReplyLists) → c ≡ Reply (ToRecovery r l) → ends_by a ≡ false) → Kept w v) f
    (λ first bus area n. let e = stays (beside bus area w) entries few k x own c first n in (ap (λ (v : World). v.session) e, ap world_store e))
    (λ n. (refl, refl))

waits_on : (es : List Event) (w : World) (entries : List Entry) → count is_held (world_store w).rows ≤ 128 → Led (world_store w).rows entries → (x : Recovery) → InFlightIs w x
    → Follows es → Unended w es → Kept w (end_of w es)
waits_on [] w entries few k x own f n = (refl, refl)
waits_on (e ∷ es) w entries few k x own f n =
    let v : World = left_by e.handed e.call w in
    let one = event_stays e.handed e.call w entries few k x own f.0
    (λ r l is. ap (λ (c : Call). ends_by (answer_to w (record { call = c; handed = e.handed }))) is
    ∙ n [] es e.handed r l (ap (λ (c : Call). record { call = c; handed = e.handed } ∷ es) is)) in
    let rest = waits_on es v entries (subst (λ (s : Store). count is_held s.rows ≤ 128) (sym one.1) few) (subst (λ (s : Store). Led s.rows entries) (sym one.1) k) x
    (ap (λ (s : Session). s.in_flight) one.0 ∙ own) f.1
    (λ before after h r l is. n (e ∷ before) after h r l (ap (λ (es : List Event). e ∷ es) is)) in
    (rest.0 ∙ one.0, rest.1 ∙ one.1)

-- ---- from the start on
module _ (o : Opening) (w : World) (pass : (step_of (Open o) w).result.answer ≡ Answer.Pass) (before more : List Event) (q : RecoveryKind) (id : RequestId)
    (h : Handed) (x : Recovery) where
  abbrev start : World
  start = next (step_of (Open o) w)

  abbrev mid : World
  mid = end_of start before

  abbrev all : List Event
  all = before ++ (starts q id h ∷ more)

  -- the rows after `more` are those before the start
  pub start_unchanged : answer_to mid (starts q id h) ≡ Answer.Recovering x → Follows all → Fresh (o.session ∷ []) all → Unended (left_by h (Begin (Recover id q)) mid) more
      → rows_after start all ≡ rows_after start before
  unfolding step_of begun_of
  start_unchanged a follows fresh unended =
      let e : Event = starts q id h in
      let j : Journal = journal_of (history_of start before) blank in
      let run = run_kept before start blank (o.session ∷ []) (sound_open o w pass) (opened_holds o w pass) (follows_front before (e ∷ more) follows) (fresh_front (o.session ∷ []) before (e ∷ more) fresh) in
      let one = by_handed h (Begin (Recover id q)) mid (λ y v. y ≡ Answer.Recovering x → (world_store v ≡ world_store mid) × InFlightIs v x) (follows_at before more e follows)
      (λ first bus area y.
      let agree = subst (λ (c : Bool). (cond c (recovery_waits id q j) j).waiting ≡ (recover_of id q mid.session (world_store mid)).session.in_flight) (ap is_recovering y)
      (begin_kept mid.session j run.0 (world_store mid) run.1 id q).agree in
      (refl, sym (begin_names mid.session j run.0 (world_store mid) run.1 x id q y ∙ agree)))
      (λ y. let z : ◌≡◌ {A = ℕ} 0 1 = cc in absurd (omega arith)) a in
      let rest = waits_on more (left_by h (Begin (Recover id q)) mid) j.entries
      (subst (λ (s : Store). count is_held s.rows ≤ 128) (sym one.0) (sound_run o w before pass (follows_front before (e ∷ more) follows)).held) (subst (λ (s : Store). Led s.rows j.entries) (sym one.0) run.1.led) x one.1
      (follows_on before more e follows) unended in
      ap (λ (v : World). (world_store v).rows) (end_append start before (e ∷ more)) ∙ ap (λ (s : Store). s.rows) (rest.1 ∙ one.0)
