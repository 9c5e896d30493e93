-- One law for each way out of the reply to a submission: its premises are the facts in hand there. Assumes nothing.
use Rattle.std.specs.Prelude.{Result, Ok, Err}
use Prim.Native.Nat.{ℕ}
use mathlib.Core.Bool.{Bool, true, false, not}
use mathlib.Core.Path.{◌≡◌, refl, ◌∙◌}
use Rattle.chain.specs.After.{After, after}
use Rattle.chain.proofs.Chain.{takes, passes, not_through}
use Rattle.models.specs.Refusals.{refusal_of, from_backend}
use Rattle.models.specs.declared.{OperationError.OperationError, Refusal.Refusal, RequestId.RequestId, RequestReport.RequestReport}
use Rattle.rows.specs.Store.{Store}
use Rattle.ledger.specs.Apply.{apply_of}
use Rattle.rules.specs.declared.{Change.Change}
use Rattle.session.specs.Lent.{store_fits}
use Rattle.session.specs.Session.{with_flight}
use Rattle.session.specs.declared.{Called.Called, InFlight.InFlight, Recovery.Recovery, Session.Session}
use Rattle.reports.specs.Answers.{effect}
use Rattle.submissions.specs.SubmitReply.{accepted_by, discarded_by, submit_reply_by, submit_reply_in, submit_reply_of}
use Rattle.session.specs.Called.{call_refused}

-- the answers to both replies
module _ (a : Result RequestReport Refusal) (s : Session) where
  pub accepted_none : (r : Refusal) (x : Called RequestReport) → a ≡ Err r → x ≡ call_refused s (refusal_of 2) → x ≡ accepted_by a s
  unfolding accepted_by
  accepted_none r x e ex = ex ∙ rw e

  pub accepted_done : (row : RequestReport) (n : Session) → a ≡ Ok row → n ≡ with_flight s InFlight.Nothing
      → ◌≡◌ {A = (Called RequestReport)} (record { answer = Ok row; session = n }) (accepted_by a s)
  unfolding accepted_by
  accepted_done row n e en = rw (e, en)

  module _ (e : OperationError) (x : Called RequestReport) where
    pub discarded_none : (r : Refusal) → a ≡ Err r → x ≡ call_refused s (refusal_of 2) → x ≡ discarded_by a e s
    unfolding discarded_by
    discarded_none r ea ex = ex ∙ rw ea

    pub discarded_done : (row : RequestReport) (m n : Session) (r : Refusal) → a ≡ Ok row → m ≡ effect e s → n ≡ with_flight m InFlight.Nothing
        → r ≡ from_backend 45 e → x ≡ call_refused n r → x ≡ discarded_by a e s
    unfolding discarded_by
    discarded_done row m n r ea em en er ex = ex ∙ rw (ea, en, em, er)

-- the row's change, then its answer
module _ (y : Result ℕ OperationError) (id : RequestId) (s : Session) (store left : Store) (a : Result RequestReport Refusal) (x : Called RequestReport) where
  pub reply_token : (token : ℕ) → y ≡ Ok token → after a left ≡ apply_of id (Change.Accept token) store → x ≡ accepted_by a s
      → after x left ≡ submit_reply_by y id s store
  unfolding submit_reply_by
  reply_token token e ea ex = rw (ex, e, ← ea)

  pub reply_error : (error : OperationError) → y ≡ Err error → after a left ≡ apply_of id Change.Discard store → x ≡ discarded_by a error s
      → after x left ≡ submit_reply_by y id s store
  unfolding submit_reply_by
  reply_error error e ea ex = rw (ex, e, ← ea)

-- by what is in flight
module _ (y : Result ℕ OperationError) (s : Session) (store : Store) where
  module _ (x : Called RequestReport) (ex : x ≡ call_refused s (refusal_of 2)) where
    pub reply_idle : s.in_flight ≡ InFlight.Nothing → after x store ≡ submit_reply_of y s store
    unfolding submit_reply_of submit_reply_in
    reply_idle e = rw (ex, e)

    pub reply_poll : (id : RequestId) → s.in_flight ≡ InFlight.Poll id → after x store ≡ submit_reply_of y s store
    unfolding submit_reply_of submit_reply_in
    reply_poll id e = rw (ex, e)

    pub reply_recovery : (z : Recovery) → s.in_flight ≡ InFlight.Recovery z → after x store ≡ submit_reply_of y s store
    unfolding submit_reply_of submit_reply_in
    reply_recovery z e = rw (ex, e)

  module _ (id : RequestId) (e : s.in_flight ≡ InFlight.Submission id) (f : Bool) (ef : f ≡ store_fits s.size store) where
    pub reply_unfit : (x : Called RequestReport) → not f ≡ true → x ≡ call_refused s (refusal_of 3) → after x store ≡ submit_reply_of y s store
    unfolding submit_reply_of submit_reply_in
    reply_unfit x t ex = rw (ex, e) (takes (After (Called RequestReport) Store) _ _ _ _ (not_through f _ true ef t) refl)

    pub reply_on : (o : After (Called RequestReport) Store) → not f ≡ false → o ≡ submit_reply_by y id s store → o ≡ submit_reply_of y s store
    unfolding submit_reply_of submit_reply_in
    reply_on o t h = rw (h, e) (passes (After (Called RequestReport) Store) _ _ _ _ (not_through f _ false ef t) refl)
