-- Those who offer a reset key: what is not affected is spared, and a request elsewhere is not affected. Assumes nothing.
use mathlib.Core.Bool.{true, false}
use mathlib.Core.List.{List}
use mathlib.Core.Logic.{inl, inr}
use mathlib.Core.Path.{◌≡◌, refl}
use borrow.Author.Tests.{eqb-true}
use lib.Dec.{eqb}
use Rattle.chain.proofs.Chain.{caseB, and3}
use Rattle.models.specs.Requests.{same_device}
use Rattle.models.specs.declared.{DeviceId.DeviceId, RequestId.RequestId}
use Rattle.rows.specs.Table.{is_held}
use Rattle.rows.specs.declared.{Row.Row}
use Rattle.session.specs.declared.{InFlight.InFlight, Recovery.Recovery, RecoveryKind.RecoveryKind}
use Rattle.scope.specs.Affected.{is_affected}
use Rattle.calls.specs.Step.{World, begun_of, step_of, world_store}
use Rattle.runs.specs.Run.{Handed, own, rows_only, other, Event, end_of, history_of}
use Rattle.history.specs.Journal.{journal_of, blank}
use Rattle.history.specs.Claim.{rows_after, rows_by, starts, returns, Spared, Claim}
use Rattle.history.specs.Reset.{Elsewhere, OthersSame, ResetSpares}

same_device_lem : (a b : DeviceId) → same_device a b ≡ true → a ≡ b
same_device_lem a b e =
    let p = and3 (eqb a.session b.session) (eqb a.generation b.generation) (eqb a.slot b.slot) e in
    let x = eqb-true _ _ p.0 in
    let y = eqb-true _ _ p.1 in
    let z = eqb-true _ _ p.2 in
    λ i. record { session = x i; generation = y i; slot = z i }

unaffected : (x : Recovery) (r : Row) → Elsewhere x r → is_affected x.device x.endpoint r ≡ false
unfolding is_affected
unaffected x r k =
    caseB (is_affected x.device x.endpoint r)
    (λ e. absurd (go k (and3 (is_held r) (same_device r.metadata.device x.device) (eqb r.metadata.endpoint x.endpoint) e))) (λ e. e)
  where
    go : Elsewhere x r → (is_held r ≡ true) × (same_device r.metadata.device x.device ≡ true) × (eqb r.metadata.endpoint x.endpoint ≡ true) → ⊥
    go (inl apart) e = apart (same_device_lem _ _ e.1)
    go (inr apart) e = apart (eqb-true _ _ e.2)

others_same : (f : InFlight) (rows rows' : List Row) → Spared f rows rows' → OthersSame f rows rows'
others_same InFlight.Nothing rows rows' k = k
others_same (InFlight.Submission id) rows rows' k = k
others_same (InFlight.Poll id) rows rows' k = k
others_same (InFlight.Recovery x) rows rows' k = λ i h e. k.equal i h (unaffected x _ e)

-- a start leaves the rows
start_leaves : (h : Handed) (w : World) (q : RecoveryKind) (id : RequestId) → rows_by w (starts q id h) ≡ (world_store w).rows
unfolding step_of begun_of
start_leaves own w q id = refl
start_leaves (rows_only bus area) w q id = refl
start_leaves (other v) w q id = refl

pub reset_spares : (w : World) (es : List Event) → Claim w es → ResetSpares w es
reset_spares w es k = record {
  start = λ before after h q id is. start_leaves h (end_of w before) q id;
  reply = λ before after h r l is.
      others_same (journal_of (history_of w before) blank).waiting (rows_after w before) (rows_by (end_of w before) (returns r l h))
      (k.spared before after h r l is);
}
