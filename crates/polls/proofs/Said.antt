-- Every number that a poll and its reply refuse by is in their lists. Assumes nothing.
use Rattle.std.specs.Prelude.{Option, Some, None, Result, Ok, Err}
use Prim.Native.Nat.{ℕ}
use mathlib.Core.Bool.{Bool, false}
use mathlib.Core.List.{List, [], ◌∷◌}
use mathlib.Core.Path.{◌≡◌, refl}
use lib.ListN.{length}
use Rattle.chain.specs.After.{After, after}
use Rattle.chain.specs.Lists.{found_in}
use Rattle.chain.proofs.Chain.{if_all}
use Rattle.models.specs.Refusals.{invalid_completion}
use Rattle.models.specs.Said.{Tabled}
use Rattle.models.specs.declared.{BackendCompletion.BackendCompletion, OperationError.OperationError, Refusal.Refusal, RequestId.RequestId, RequestReport.RequestReport}
use Rattle.models.proofs.Said.{tabled_says, tabled_own, tabled_backend, tabled_in, said_of}
use Rattle.rows.specs.Store.{Store}
use Rattle.rows.specs.Table.{row_in}
use Rattle.rows.specs.declared.{Row.Row}
use Rattle.rules.specs.declared.{Change.Change}
use Rattle.ledger.specs.Apply.{changed_at}
use Rattle.ledger.specs.Said.{applied_said}
use Rattle.ledger.specs.Search.{is_at}
use Rattle.ledger.proofs.Said.{change_tabled_at}
use Rattle.checks.specs.Completion.{test_completion}
use Rattle.session.specs.Lent.{Memory}
use Rattle.session.specs.declared.{Called.Called, InFlight.InFlight, Session.Session}
use Rattle.session.proofs.Said.{guarded_all}
use Rattle.reports.specs.Said.{report_said}
use Rattle.polls.specs.Poll.{poll_row, poll_by, poll_of}
use Rattle.polls.specs.PollReply.{failed_as, invalid_as, judged_test, judged_by, judged, settled, poll_reply_at, poll_reply_by, poll_reply_found, poll_reply_in, poll_reply_of}
use Rattle.polls.specs.Said.{poll_said, poll_numbers, poll_reply_numbers}
use Rattle.polls.specs.declared.{PollAnswer.PollAnswer, poll_reply.Judgement.Judgement}
use Rattle.checks.specs.declared.{completion.CompletionFault.CompletionFault, completion.ValidCompletion.ValidCompletion}

-- ---- a poll
abbrev Polls : Called PollAnswer → Type 0
Polls x = Tabled poll_numbers (poll_said x.answer)

row_tabled : (r : Row) (id : RequestId) (s : Session) → Polls (poll_row r id s)
unfolding poll_row
row_tabled r id s = if_all Polls _ _ _ (tabled_says _ _) (if_all Polls _ _ _ (tabled_own _ 28 refl) (tabled_says _ _))

poll_by_lem : (f : Option ℕ) (id : RequestId) (s : Session) (rows : List Row) → Polls (poll_by f id s rows)
unfolding poll_by
poll_by_lem None id s rows = tabled_own _ 40 refl
poll_by_lem (Some i) id s rows = row_tabled _ id s

module _ (id : RequestId) (s : Session) (store : Store) where
  pub poll_tabled : Tabled poll_numbers (poll_said (poll_of id s store).answer)
  unfolding poll_of
  poll_tabled = guarded_all Polls s _ _ _ (tabled_own _ 1 refl) (tabled_own _ 3 refl) (poll_by_lem (found_in (is_at id) store.rows) id s store.rows)

  pub poll_said_lem : (x : Called PollAnswer) → x ≡ poll_of id s store → (x ≡ poll_of id s store) × Tabled poll_numbers (poll_said x.answer)
  poll_said_lem x e = said_of Polls _ _ e poll_tabled

-- ---- its reply: the ledger completes the row or fails it, and refuses either by 41
module _ (s : Session) (store : Store) (i : ℕ) (c : BackendCompletion) where
  abbrev pub Changes : Judgement → Type 0
  Changes j = Tabled (41 ∷ []) (applied_said (changed_at i j.change store).result)

  failed_tabled : (e : OperationError) (quiescent : Bool) → Tabled (41 ∷ []) (applied_said (changed_at i (Change.Fail e c.completion_code quiescent) store).result)
  failed_tabled e quiescent = change_tabled_at (Change.Fail e c.completion_code quiescent) store i

  test_by : (t : Result ValidCompletion CompletionFault) → Changes (judged_test t s c)
  unfolding judged_test invalid_as
  test_by (Ok v) = change_tabled_at (Change.Complete v.actual_length v.completion_code) store i
  test_by (Err CompletionFault.MissingLength) = failed_tabled (invalid_completion c.completion_code).error false
  test_by (Err CompletionFault.Invalid) = failed_tabled (invalid_completion c.completion_code).error false

  pub judged_by_lem : (row : Row) (o : Option OperationError) (given : ℕ) → Changes (judged_by o s row c given)
  unfolding judged_by failed_as
  judged_by_lem row (Some e) given = if_all Changes _ _ _ (failed_tabled e c.quiescent) (failed_tabled e c.quiescent)
  judged_by_lem row None given = test_by (test_completion c given row.metadata.requested_length)

abbrev Replies : After (Called RequestReport) Memory → Type 0
Replies o = Tabled poll_reply_numbers (report_said o.result.answer)

settled_by_lem : (a : Result RequestReport Refusal) (left : Store) → Tabled (41 ∷ []) (applied_said a) → (j : Judgement) (i : ℕ) (bytes : List ℕ) (idle : Session) (area : List ℕ)
    → Replies (settled (after a left) j i bytes idle area)
unfolding settled
settled_by_lem (Err r) left h j i bytes idle area = tabled_in poll_reply_numbers (41 ∷ []) refl _ h
settled_by_lem (Ok x) left h j i bytes idle area = tabled_says _ _

module _ (x : Result (Option BackendCompletion) OperationError) (bytes : List ℕ) where
  reply_at : (y : Result (Option BackendCompletion) OperationError) (i : ℕ) (idle : Session) (m : Memory) → Replies (poll_reply_at y i bytes idle m)
  unfolding poll_reply_at judged
  reply_at (Ok None) i idle m = tabled_says _ _
  reply_at (Err e) i idle m = tabled_backend _ 45 e refl refl
  reply_at (Ok (Some c)) i idle m =
      let j : Judgement = judged idle (row_in m.store.rows i) c (length bytes) in
      settled_by_lem _ _ (judged_by_lem idle m.store i c (row_in m.store.rows i) c.error (length bytes)) j i bytes idle m.area

  reply_by_lem : (f : Option ℕ) (s : Session) (m : Memory) → Replies (poll_reply_by f x bytes s m)
  unfolding poll_reply_by
  reply_by_lem None s m = tabled_own _ 2 refl
  reply_by_lem (Some i) s m = reply_at x i _ m

  reply_in_lem : (f : InFlight) (s : Session) (m : Memory) → Replies (poll_reply_in f x bytes s m)
  unfolding poll_reply_in poll_reply_found
  reply_in_lem InFlight.Nothing s m = tabled_own _ 2 refl
  reply_in_lem (InFlight.Submission id) s m = tabled_own _ 2 refl
  reply_in_lem (InFlight.Recovery y) s m = tabled_own _ 2 refl
  reply_in_lem (InFlight.Poll id) s m = if_all Replies _ _ _ (tabled_own _ 3 refl) (reply_by_lem (found_in (is_at id) m.store.rows) s m)

  module _ (s : Session) (m : Memory) where
    pub poll_reply_tabled : Tabled poll_reply_numbers (report_said (poll_reply_of x bytes s m).result.answer)
    unfolding poll_reply_of
    poll_reply_tabled = reply_in_lem s.in_flight s m

    pub poll_reply_said : (y : Called RequestReport) (left : Memory) → after y left ≡ poll_reply_of x bytes s m
        → (after y left ≡ poll_reply_of x bytes s m) × Tabled poll_reply_numbers (report_said y.answer)
    poll_reply_said y left e = said_of Replies _ _ e poll_reply_tabled
