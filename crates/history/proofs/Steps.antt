-- Every call keeps the invariant. Assumes nothing.
use Rattle.std.specs.Prelude.{Option, Some, None, Result, Ok, Err, ⊤}
use Prim.Native.Nat.{ℕ, ◌<◌}
use mathlib.Core.Path.{◌≡◌}
use mathlib.Core.Bool.{true, false, cond, true≢false}
use mathlib.Core.List.{List}
use borrow.Author.Tests.{not-true}
use lib.ListN.{length}
use Rattle.chain.specs.Lists.{count, is_among}
use Rattle.chain.specs.After.{After, after}
use Rattle.chain.proofs.Chain.{if_all, if_by}
use Rattle.models.specs.Requests.{device_may_access}
use Rattle.models.specs.declared.{OperationError.OperationError, Refusal.Refusal, RequestId.RequestId, RequestReport.RequestReport}
use Rattle.rows.specs.Store.{Store, put_in, emptied}
use Rattle.rows.specs.InPlace.{cancel_in, late_in, cancelled, timed_out}
use Rattle.rows.specs.Table.{is_held, row_in}
use Rattle.rows.specs.declared.{Row.Row}
use Rattle.ledger.specs.Apply.{apply_by}
use Rattle.rules.specs.Rules.{moved, freed, logical_cancel, cancel_withdrawn, time_out, reclaimed, change_row}
use Rattle.rules.specs.declared.Change as rules
use Rattle.session.specs.Session.{is_closed, is_busy, marked}
use Rattle.session.specs.Lifecycle.{acquired_by, acquire_of, initialized_by, initialize_of, closed_by, fresh_by, close_of}
use Rattle.session.specs.Start.{guarded}
use Rattle.session.specs.Lent.{Lent}
use Rattle.session.specs.declared.{Called.Called, Session.Session, lifecycle.AcquireFailure.AcquireFailure}
use Rattle.reports.specs.Change.{reported_by, change_of}
use Rattle.calls.specs.Answers.{of_verdict, is_pass}
use Rattle.calls.specs.Calls.{Changing, Cancel, Timeout, Reclaim, Withdraw, Call, Open, Place, Move, Acquire, Initialize, Close, Begin, Submit, SubmitPlan, Poll, Recover, Reply, ToSubmit, ToPoll, ToRecovery, Change, Read}
use Rattle.calls.specs.Step.{World, moved_of, begun_of, replied_of, change_by, step_of, world_store}
use Rattle.calls.specs.declared.{Outcome.Outcome}
use Rattle.runs.specs.Run.{is_opening, number_of, is_new, noted}
use Rattle.runs.specs.Sound.{Sound}
use Rattle.runs.proofs.Held.{unheld_row}
use Rattle.runs.proofs.Ways.{change_all}
use Rattle.runs.proofs.Facts.{closed_unheld}
use Rattle.runs.proofs.Rules.{while_all}
use Rattle.history.specs.Journal.{Journal, released_all, journal_step}
use Rattle.history.proofs.Led.{Alike}
use Rattle.history.proofs.Changes.{flag_alike, empty_alike}
use Rattle.history.proofs.Inv.{Inv, marks, quietly, seen_more, closed_again, closed_anew}
use Rattle.history.proofs.Submits.{submit_kept, plan_kept}
use Rattle.history.proofs.Replies.{reply_kept, poll_kept, finish_kept}
use Rattle.history.proofs.Recovery.{begin_kept, recovery_kept}
use Rattle.rules.specs.declared.{Step.Step}
use Rattle.polls.specs.declared.{PollAnswer.PollAnswer}

-- ---- cancel, its withdrawal, timeout and reclaim: the row they lead to weighs what it did
abbrev pub Stays : Row → Result Step Refusal → Type 0
Stays r (Err x) = Unit {0}
Stays r (Ok n) = Alike r n.row

change_stays : (c : Changing) (r : Row) → Stays r (change_row r (change_by c))
unfolding change_row logical_cancel cancelled cancel_withdrawn time_out timed_out reclaimed freed moved
change_stays Cancel r = while_all r.state _ (Stays r) (λ e. tt) (λ e. flag_alike r true (late_in r.state) true r.timed_out e)
change_stays Timeout r = while_all r.state _ (Stays r) (λ e. tt) (λ e. flag_alike r (cancel_in r.state) true r.logical_cancel true e)
-- 42: what is reclaimed is not held
change_stays Reclaim r = if_by (Stays r) _ (device_may_access r.state) _ (λ e. tt) (λ e. empty_alike r (unheld_row r e))
change_stays Withdraw r =
    while_all r.state _ (Stays r) (λ e. tt) (λ e. if_all (Stays r) _ _ _ tt (flag_alike r false (late_in r.state) false r.timed_out e))

module _ (s : Session) (j : Journal) (seen : List ℕ) (store : Store) (k : Inv s store.rows j seen) where
  abbrev ChangeKept : After (Called RequestReport) Store → Type 0
  ChangeKept o = Inv o.result.session o.lent.rows j seen

  change_kept : (id : RequestId) (c : rules.Change) → ((r : Row) → Stays r (change_row r c)) → ChangeKept (change_of id c s store)
  unfolding reported_by apply_by put_in
  change_kept id c stays =
      change_all id c s store ChangeKept (λ x. k) (λ idle i lt hit. by_step i lt (change_row (row_in store.rows i) c) (stays (row_in store.rows i)))
    where
      by_step : (i : ℕ) → i < length store.rows → (t : Result Step Refusal) → Stays (row_in store.rows i) t
          → ChangeKept (after (reported_by (apply_by t i store).result s) (apply_by t i store).lent)
      by_step i lt (Err x) h = k
      by_step i lt (Ok xs) h = quietly s store.rows j seen k i lt xs.row h

  -- ---- the lifecycle
  abbrev CalledKept : Called ⊤ → Type 0
  CalledKept c = Inv c.session store.rows j seen

  acquire_kept : (x : Result ⊤ AcquireFailure) → CalledKept (acquire_of x s)
  unfolding acquire_of acquired_by
  acquire_kept x = if_all CalledKept _ _ _ k (if_all CalledKept _ _ _ k (go x))
    where
      go : (x : Result ⊤ AcquireFailure) → CalledKept (acquired_by x s)
      go (Ok tt) = k
      go (Err x) = if_all CalledKept _ _ _ k k

  initialize_kept : (x : Option OperationError) → CalledKept (initialize_of x s)
  unfolding initialize_of initialized_by
  initialize_kept x = if_all CalledKept _ _ _ k (if_all CalledKept _ _ _ k (go x))
    where
      go : (x : Option OperationError) → CalledKept (initialized_by x s)
      go None = k
      go (Some e) = marks s store.rows j seen k

  abbrev CloseKept : Option ℕ → After (Called ⊤) Store → Type 0
  CloseKept n o = Inv o.result.session o.lent.rows (cond (is_pass (of_verdict o.result.answer)) (released_all j) j) (noted n seen)

  close_kept : (is_closed s.state ≡ true → count is_held store.rows ≡ 0) → (n : Option ℕ) (x : Option OperationError) → is_new n seen ≡ true
      → CloseKept n (close_of n x s store)
  unfolding close_of guarded fresh_by closed_by emptied
  close_kept none n x new =
      if_by (CloseKept n) _ (is_busy s.in_flight) _ (λ y. seen_more s store.rows j seen k n)
      (λ y. if_all (CloseKept n) _ _ _ (seen_more s store.rows j seen k n)
      (if_by (CloseKept n) _ (is_closed s.state) _
      (λ c. seen_more s store.rows (released_all j) seen (closed_again s store.rows j seen k (none c)) n)
      (λ c. go y n new x)))
    where
      go : is_busy s.in_flight ≡ false → (n : Option ℕ) → is_new n seen ≡ true → (x : Option OperationError) → CloseKept n (fresh_by n x s store)
      go y None new x = k
      go y (Some n) new (Some e) = seen_more (marked s) store.rows j seen (marks s store.rows j seen k) (Some n)
      go y (Some n) new None = closed_anew s store.rows j seen k n (length store.rows) (not-true (is_among n seen) new) y

-- ---- any call
abbrev pub Kept : Call → Journal → List ℕ → After Outcome Lent → Type 0
Kept c j seen a = Inv a.result.session a.lent.memory.store.rows (journal_step c a.result.answer j) (noted (number_of c) seen)

module _ (w : World) (sound : Sound w.session (world_store w)) (j : Journal) (seen : List ℕ) (k : Inv w.session (world_store w).rows j seen) where
  pub step_kept : (c : Call) → is_opening c ≡ false → is_new (number_of c) seen ≡ true → Kept c j seen (step_of c w)
  unfolding step_of moved_of begun_of replied_of journal_step
  step_kept (Open o) first new = absurd (true≢false first)
  step_kept (Place p) first new = k
  step_kept (Move (Acquire reply)) first new = acquire_kept w.session j seen (world_store w) k reply
  step_kept (Move (Initialize reply)) first new = initialize_kept w.session j seen (world_store w) k reply
  step_kept (Move (Close fresh reply)) first new = close_kept w.session j seen (world_store w) k (closed_unheld sound) fresh reply new
  step_kept (Begin (Submit packets q)) first new = submit_kept w.session j seen w.lent k packets q
  step_kept (Begin (SubmitPlan q)) first new = plan_kept w.session j seen w.lent k q.plan q.bytes q.reading
  step_kept (Begin (Poll id)) first new = poll_kept w.session (world_store w) sound j seen k id
  step_kept (Begin (Recover id kind)) first new = begin_kept w.session j seen (world_store w) k id kind
  step_kept (Reply (ToSubmit reply)) first new = reply_kept w.session (world_store w) sound j seen k reply
  step_kept (Reply (ToPoll reply bytes)) first new = finish_kept w.session (world_store w) sound j seen k reply bytes w.lent.memory.area
  step_kept (Reply (ToRecovery reply lists)) first new = recovery_kept w.session j seen w.lent.memory k sound.held lists reply
  step_kept (Change id c) first new = change_kept w.session j seen (world_store w) k id (change_by c) (change_stays c)
  step_kept (Read r) first new = k
