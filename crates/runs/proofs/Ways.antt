-- Every way out of a call on one row and of a reply, for whatever is claimed of it. Assumes nothing.
use Rattle.std.specs.Prelude.{Option, Some, None, Result, Ok, Err}
use Prim.Native.Nat.{ℕ, ◌<◌}
use mathlib.Core.Bool.{true, false}
use mathlib.Core.List.{List, ◌++◌}
use mathlib.Core.Path.{◌≡◌, refl}
use borrow.Author.Tests.{not-true, not-false}
use lib.Dec.{eqb}
use lib.ListN.{length}
use Rattle.chain.specs.After.{After, after}
use Rattle.chain.specs.Lists.{found_in}
use Rattle.chain.proofs.Chain.{if_by}
use Rattle.models.specs.Refusals.{refusal_of, from_backend}
use Rattle.models.specs.Requests.{device_may_access, is_pending}
use Rattle.models.specs.declared.{BackendCompletion.BackendCompletion, OperationError.OperationError, Refusal.Refusal, RequestId.RequestId, RequestReport.RequestReport}
use Rattle.rows.specs.Store.{Store}
use Rattle.rows.specs.Table.{row_in}
use Rattle.rows.specs.declared.{Row.Row}
use Rattle.ledger.specs.Apply.{apply_by, changed_at, apply_at, apply_of}
use Rattle.rules.specs.Rules.{report_of, change_row}
use Rattle.ledger.specs.Search.{is_at}
use Rattle.rules.specs.declared.{Change.Change}
use Rattle.ledger.proofs.Found.{found_row}
use Rattle.session.specs.Session.{is_busy, is_initialized, may_recover, with_flight, marked}
use Rattle.session.specs.Lent.{Memory}
use Rattle.session.specs.Start.{guarded}
use Rattle.session.specs.declared.{Called.Called, InFlight.InFlight, Recovery.Recovery, RecoveryKind.RecoveryKind, Session.Session}
use Rattle.reports.specs.Change.{reported_by, change_of}
use Rattle.polls.specs.Poll.{poll_row, poll_by, poll_of}
use Rattle.polls.specs.PollReply.{poll_reply_at, poll_reply_by, poll_reply_found, poll_reply_in, poll_reply_of}
use Rattle.submissions.specs.SubmitReply.{submit_reply_by, submit_reply_in, submit_reply_of}
use Rattle.scope.specs.Scope.{in_scope}
use Rattle.recovery.specs.Recover.{begin_refused, recovery_of, begun_as, begin_row, recover_by, recover_of}
use Rattle.recovery.specs.RecoveryReply.{ReplyLists, recovery_refused, ended, is_whole, settled_of, done_of, reply_by, reply_sized, reply_in, recovery_reply_of}
use Rattle.recovery.specs.declared.{Begun.Begun, BackendAbort.BackendAbort, Replied.Replied}
use Rattle.runs.proofs.Affected.{own_tokens, place_meant}
use Rattle.polls.specs.declared.{PollAnswer.PollAnswer}
use Rattle.session.specs.Called.{call_refused}

-- the row of an id, or none
module _ (id : RequestId) (rows : List Row) (P : Option ℕ → Type 0) (no : P None)
    (go : (i : ℕ) → i < length rows → is_at id (row_in rows i) ≡ true → P (Some i)) where
  by_found : (f : Option ℕ) → f ≡ found_in (is_at id) rows → P f
  by_found None e = no
  by_found (Some i) e = let p = found_row id rows (Some i) i e refl in go i p.0 p.1

  pub found_all : P (found_in (is_at id) rows)
  found_all = by_found (found_in (is_at id) rows) refl

pub apply_all_lem : (id : RequestId) (c : Change) (store : Store) (P : After (Result RequestReport Refusal) Store → Type 0) → P (after (Err (refusal_of 40)) store)
    → ((i : ℕ) → i < length store.rows → is_at id (row_in store.rows i) ≡ true → P (apply_by (change_row (row_in store.rows i) c) i store))
    → P (apply_of id c store)
unfolding apply_of apply_at changed_at
apply_all_lem id c store P none go = found_all id store.rows (λ (f : Option ℕ). P (apply_at f c store)) none go

-- cancel, its withdrawal, timeout and reclaim
module _ (id : RequestId) (c : Change) (s : Session) (store : Store) (P : After (Called RequestReport) Store → Type 0) (no : (x : Refusal) → P (after (call_refused s x) store))
    (go : is_busy s.in_flight ≡ false → (i : ℕ) → i < length store.rows → is_at id (row_in store.rows i) ≡ true
    → P (after (reported_by (apply_by (change_row (row_in store.rows i) c) i store).result s) (apply_by (change_row (row_in store.rows i) c) i store).lent)) where
  pub change_all : P (change_of id c s store)
  unfolding change_of guarded reported_by
  change_all =
      if_by P _ _ _ (λ e. no (refusal_of 1))
      (λ idle. if_by P _ _ _ (λ e. no (refusal_of 3))
      (λ e. apply_all_lem id c store (λ (a : After (Result RequestReport Refusal) Store). P (after (reported_by a.result s) a.lent)) (no (refusal_of 40)) (λ i h u. go idle i h u)))

module _ (id : RequestId) (s : Session) (store : Store) (P : Called PollAnswer → Type 0) (no : (x : Refusal) → P (call_refused s x))
    (tell : (i : ℕ) → P (record { answer = Ok (PollAnswer.Report (report_of (row_in store.rows i))); session = s }))
    (go : (i : ℕ) → i < length store.rows → is_at id (row_in store.rows i) ≡ true → is_pending (row_in store.rows i).state ≡ true → is_initialized s.state ≡ true
    → P (record { answer = Ok (PollAnswer.Asked (row_in store.rows i).token); session = with_flight s (InFlight.Poll id) })) where
  pub poll_all : P (poll_of id s store)
  unfolding poll_of guarded poll_by poll_row
  poll_all =
      if_by P _ _ _ (λ e. no (refusal_of 1))
      (λ e. if_by P _ _ _ (λ y. no (refusal_of 3))
      (λ y. found_all id store.rows (λ (f : Option ℕ). P (poll_by f id s store.rows)) (no (refusal_of 40))
      (λ i h u. if_by P _ _ _ (λ p. tell i)
      (λ p. if_by P _ _ _ (λ r. no (refusal_of 28)) (λ r. go i h u (not-false (is_pending (row_in store.rows i).state) p) (not-false (is_initialized s.state) r))))))

-- a recovery's start
module _ (id : RequestId) (q : RecoveryKind) (s : Session) (store : Store) (P : Begun → Type 0) (no : (n : ℕ) → eqb n 44 ≡ false → P (begin_refused s (refusal_of n)))
    (may-not : (i : ℕ) → i < length store.rows → is_at id (row_in store.rows i) ≡ true → may_recover s.state ≡ false → P (begin_refused s (refusal_of 44)))
    (go : (i : ℕ) → i < length store.rows → is_at id (row_in store.rows i) ≡ true → device_may_access (row_in store.rows i).state ≡ true → may_recover s.state ≡ true
    → P (begun_as (recovery_of id q (row_in store.rows i)) s store.rows)) where
  pub begin_all : P (recover_of id q s store)
  unfolding recover_of guarded recover_by begin_row
  begin_all =
      if_by P _ _ _ (λ e. no 1 refl)
      (λ e. if_by P _ _ _ (λ y. no 3 refl)
      (λ y. found_all id store.rows (λ (f : Option ℕ). P (recover_by f id q s store.rows)) (no 40 refl)
      (λ i h u. if_by P _ _ _ (λ a. no 43 refl)
      (λ a. if_by P _ _ _ (λ m. may-not i h u (not-true (may_recover s.state) m))
      (λ m. go i h u (not-false (device_may_access (row_in store.rows i).state) a) (not-false (may_recover s.state) m))))))

-- the reply to a submission
module _ (x : Result ℕ OperationError) (s : Session) (store : Store) (P : After (Called RequestReport) Store → Type 0)
    (two : P (after (call_refused s (refusal_of 2)) store)) (three : P (after (call_refused s (refusal_of 3)) store))
    (go : (id : RequestId) → s.in_flight ≡ InFlight.Submission id → P (submit_reply_by x id s store)) where
  pub reply_all : P (submit_reply_of x s store)
  unfolding submit_reply_of submit_reply_in
  reply_all = by_flight s.in_flight refl
    where
      by_flight : (f : InFlight) → s.in_flight ≡ f → P (submit_reply_in f x s store)
      by_flight InFlight.Nothing e = two
      by_flight (InFlight.Poll id) e = two
      by_flight (InFlight.Recovery y) e = two
      by_flight (InFlight.Submission id) e = if_by P _ _ _ (λ y. three) (λ y. go id e)

-- the reply to a poll
module _ (x : Result (Option BackendCompletion) OperationError) (bytes : List ℕ) (s : Session) (m : Memory) (P : After (Called RequestReport) Memory → Type 0)
    (two : P (after (call_refused s (refusal_of 2)) m)) (three : P (after (call_refused s (refusal_of 3)) m))
    (go : (id : RequestId) → s.in_flight ≡ InFlight.Poll id → (i : ℕ) → i < length m.store.rows → is_at id (row_in m.store.rows i) ≡ true
    → P (poll_reply_at x i bytes (with_flight s InFlight.Nothing) m)) where
  pub finish_all : P (poll_reply_of x bytes s m)
  unfolding poll_reply_of poll_reply_in poll_reply_found poll_reply_by
  finish_all = by_flight s.in_flight refl
    where
      by_flight : (f : InFlight) → s.in_flight ≡ f → P (poll_reply_in f x bytes s m)
      by_flight InFlight.Nothing e = two
      by_flight (InFlight.Submission id) e = two
      by_flight (InFlight.Recovery y) e = two
      by_flight (InFlight.Poll id) e =
          if_by P _ _ _ (λ y. three) (λ y. found_all id m.store.rows (λ (f : Option ℕ). P (poll_reply_by f x bytes s m)) two (λ i h u. go id e i h u))

-- the reply to a recovery
module _ (l : ReplyLists) (s : Session) (m : Memory) (P : After Replied Memory → Type 0)
    (two : P (after (recovery_refused s (refusal_of 2)) m)) (three : P (after (recovery_refused s (refusal_of 3)) m))
    (lists : P (after (recovery_refused s (refusal_of 49)) m))
    (failed : (e : OperationError) → P (after (recovery_refused (marked (with_flight s InFlight.Nothing)) (from_backend 45 e)) m))
    (unscoped : P (after (recovery_refused (marked (with_flight s InFlight.Nothing)) (refusal_of 46)) m))
    (go : (x : Recovery) → s.in_flight ≡ InFlight.Recovery x → (o : BackendAbort) → in_scope (is_whole o) (own_tokens x.device x.endpoint m.store.rows) (l.tokens ++ l.aborted) ≡ true
    → P (settled_of (ended (with_flight s InFlight.Nothing) x o) (place_meant x.device x.endpoint m.store.rows) l m)) where
  pub recovery_all : (r : Result BackendAbort OperationError) → P (recovery_reply_of r l s m)
  unfolding recovery_reply_of reply_in reply_sized reply_by done_of
  recovery_all r = by_flight s.in_flight refl
    where
      by_reply : (x : Recovery) → s.in_flight ≡ InFlight.Recovery x → (r : Result BackendAbort OperationError) → P (reply_by r x l (with_flight s InFlight.Nothing) m)
      by_reply x own (Err e) = failed e
      by_reply x own (Ok o) = if_by P _ _ _ (λ y. unscoped) (λ y. go x own o (not-false _ y))

      by_flight : (f : InFlight) → s.in_flight ≡ f → P (reply_in f r l s m)
      by_flight InFlight.Nothing e = two
      by_flight (InFlight.Submission id) e = two
      by_flight (InFlight.Poll id) e = two
      by_flight (InFlight.Recovery x) e = if_by P _ _ _ (λ y. three) (λ y. if_by P _ _ _ (λ z. lists) (λ z. by_reply x e r))
