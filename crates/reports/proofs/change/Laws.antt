-- One law for each way out of a change: its premises are the facts in hand there. Assumes nothing.
use Rattle.std.specs.Prelude.{Result, Ok, Err, ⊤}
use mathlib.Core.Path.{◌≡◌, ◌∙◌}
use Rattle.chain.specs.After.{After, after}
use Rattle.models.specs.declared.{Refusal.Refusal, RequestId.RequestId, RequestReport.RequestReport}
use Rattle.rows.specs.Store.{Store}
use Rattle.ledger.specs.Apply.{apply_of}
use Rattle.rules.specs.declared.{Change.Change}
use Rattle.session.specs.Lent.{store_fits}
use Rattle.session.specs.Start.{ready_of}
use Rattle.session.specs.declared.{Called.Called, Session.Session}
use Rattle.session.proofs.start.Laws.{guard_stop, guard_on}
use Rattle.reports.specs.Change.{reported_by, change_of}
use Rattle.session.specs.Called.{call_refused}

abbrev pub reported_as : Result RequestReport Refusal → Session → Called RequestReport
reported_as a s = record { answer = a; session = s }

-- what the ledger's answer reports
module _ (a : Result RequestReport Refusal) (s : Session) where
  pub reported_no : (r : Refusal) (x : Called RequestReport) → a ≡ Err r → x ≡ call_refused s r → x ≡ reported_by a s
  unfolding reported_by
  reported_no r x e ex = ex ∙ rw e

  pub reported_done : (x : RequestReport) → a ≡ Ok x → reported_as (Ok x) s ≡ reported_by a s
  unfolding reported_by
  reported_done x e = rw e

-- a change
module _ (id : RequestId) (c : Change) (s : Session) (store : Store) (x : Called RequestReport) (v : Result ⊤ Refusal) (ev : v ≡ ready_of s (store_fits s.size store)) where
  pub change_stop : (r : Refusal) → v ≡ Err r → x ≡ call_refused s r → after x store ≡ change_of id c s store
  unfolding change_of
  change_stop r e ex = guard_stop (After (Called RequestReport) Store) (λ r. after (call_refused s r) store) _ s _ _ v ev r e (rw ex)

  pub change_on : (a : Result RequestReport Refusal) (left : Store) → v ≡ (Ok tt) → after a left ≡ apply_of id c store → x ≡ reported_by a s
      → after x left ≡ change_of id c s store
  unfolding change_of
  change_on a left e ea ex = guard_on (After (Called RequestReport) Store) _ _ s _ _ v ev e (rw (ex, ← ea))
