-- For those who offer a reset key: whatever a recovery is answered, at its start or at its reply, no request of another device id or
-- endpoint changes. Assumes nothing.
use Rattle.std.specs.Prelude.{ℕ, ◌<◌, List, ◌∷◌, ◌++◌, ◌⊎◌, ◌≡◌, length, Result}
use Rattle.models.specs.declared.{OperationError.OperationError, RequestId.RequestId}
use Rattle.rows.specs.Table.{row_in}
use Rattle.rows.specs.declared.{Row.Row}
use Rattle.session.specs.declared.{InFlight.InFlight, Recovery.Recovery, RecoveryKind.RecoveryKind}
use Rattle.recovery.specs.RecoveryReply.{ReplyLists}
use Rattle.calls.specs.Step.{World}
use Rattle.runs.specs.Run.{Handed, Event, history_of, end_of}
use Rattle.history.specs.Journal.{journal_of, blank}
use Rattle.history.specs.Claim.{starts, returns, rows_after, rows_by}
use Rattle.recovery.specs.declared.{BackendAbort.BackendAbort}

-- a request of another device id or of another endpoint
abbrev pub Elsewhere : Recovery → Row → Type 0
Elsewhere x r = (r.metadata.device ≡ x.device → ⊥) ⊎ (r.metadata.endpoint ≡ x.endpoint → ⊥)

-- by the operation that waits: each request elsewhere is equal, whole; where it is no recovery, every row is
abbrev pub OthersSame : InFlight → List Row → List Row → Type 0
OthersSame InFlight.Nothing rows rows' = rows' ≡ rows
OthersSame (InFlight.Submission id) rows rows' = rows' ≡ rows
OthersSame (InFlight.Poll id) rows rows' = rows' ≡ rows
OthersSame (InFlight.Recovery x) rows rows' = (i : ℕ) → i < length rows → Elsewhere x (row_in rows i) → row_in rows' i ≡ row_in rows i

pub record ResetSpares (w : World) (es : List Event) : Type 0 where
  -- the start changes no row at all
  pub start : (before after : List Event) (h : Handed) (q : RecoveryKind) (id : RequestId) → es ≡ before ++ (starts q id h ∷ after)
      → rows_by (end_of w before) (starts q id h) ≡ rows_after w before
  -- the reply none elsewhere; which operation waits is told by the history
  pub reply : (before after : List Event) (h : Handed) (r : Result BackendAbort OperationError) (l : ReplyLists) → es ≡ before ++ (returns r l h ∷ after)
      → OthersSame (journal_of (history_of w before) blank).waiting (rows_after w before) (rows_by (end_of w before) (returns r l h))
