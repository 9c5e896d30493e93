-- One law for each way out of a request's submission: its premises are the facts in hand there. Assumes nothing.
use Rattle.std.specs.Prelude.{Ok, Result, Err}
use Prim.Native.Nat.{ℕ}
use mathlib.Core.Bool.{Bool}
use mathlib.Core.List.{List}
use mathlib.Core.Path.{◌≡◌, ◌∙◌}
use lib.ListN.{length}
use Rattle.chain.specs.After.{After, after}
use Rattle.models.specs.declared.{Refusal.Refusal, RequestMetadata.RequestMetadata}
use Rattle.targets.specs.declared.{Readings.Readings}
use Rattle.session.specs.Lent.{Lent}
use Rattle.session.specs.declared.{Called.Called, Session.Session, sizes.Place.Place}
use Rattle.submissions.specs.Admit.{admit_of}
use Rattle.submissions.specs.Begin.{draft, target_of}
use Rattle.submissions.specs.Submit.{Request, submitted_by, submit_target, submit_by, submit_of}
use Rattle.submissions.specs.declared.{Submission.Submission, admit.Admitted.Admitted, begin.Start.Start}
use Rattle.session.specs.Called.{call_refused}

-- what the backend is given
module _ (a : Result Start Refusal) (s : Session) (m : RequestMetadata) (given : Bool) where
  pub submitted_no : (r : Refusal) (x : Called Submission) → a ≡ Err r → x ≡ call_refused s r → x ≡ submitted_by a s m given
  unfolding submitted_by
  submitted_no r x e ex = ex ∙ rw e

  pub submitted_at : (x : Start) → a ≡ Ok x
      → ◌≡◌ {A = (Called Submission)} (record { answer = Ok (record { id = x.id; row = x.row; metadata = m; has_packets = given }); session = s }) (submitted_by a s m given)
  unfolding submitted_by
  submitted_at x e = rw e

-- 26 to 39
pub target_is : (p : Place) (m : RequestMetadata) (bytes : List ℕ) (given : Bool) (x : Readings) (s : Session) (l : Lent) (y : Called Start) (left : Lent) (z : Called Submission)
    → after y left ≡ target_of (draft p m bytes) x s l → z ≡ submitted_by y.answer y.session m given → after z left ≡ submit_target (draft p m bytes) given x s l
unfolding submit_target
target_is p m bytes given x s l y left z h ez = rw (ez, ← h)

-- the rest
module _ (packets : List ℕ) (q : Request) (s : Session) (l : Lent) (a : Result Admitted Refusal) (ea : a ≡ admit_of packets q.given q.spec (length q.bytes) s l) where
  pub submit_no : (r : Refusal) (x : Called Submission) → a ≡ Err r → x ≡ call_refused s r → after x l ≡ submit_of packets q s l
  unfolding submit_of submit_by
  submit_no r x e ex = rw (ex, ← ea, e)

  pub submit_on : (x : Admitted) (o : After (Called Submission) Lent) → a ≡ Ok x
      → o ≡ submit_target (draft x.place x.metadata q.bytes) q.given q.readings s l → o ≡ submit_of packets q s l
  unfolding submit_of submit_by
  submit_on x o e h = h ∙ rw (← ea, e)
