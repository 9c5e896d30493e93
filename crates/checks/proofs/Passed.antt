-- A request or a plan that passed fits its row, and so does its data. Assumes nothing.
use Rattle.std.specs.Prelude.{Result, Ok, Err, ⊤}
use Prim.Native.Nat.{ℕ, ◌≤◌}
use mathlib.Core.Bool.{Bool, true, false}
use mathlib.Core.Path.{◌≡◌, refl, sym, ap}
use native.Mathlib.Omega.{arith}
use borrow.Author.Tests.{ltb-false, eqb-true}
use lib.Dec.{eqb}
use Rattle.chain.specs.Chain.{◌if◌else◌}
use Rattle.chain.proofs.Chain.{caseB}
use Rattle.models.specs.declared.{ControlPlan.ControlPlan, Refusal.Refusal, RequestMetadata.RequestMetadata, RequestSpec.RequestSpec}
use Rattle.checks.specs.Prepare.{spec_facts, is_wrong_data, data_checked, control_checked, other_checked, spec_checked, metadata_of, prepared_if, prepared}
use Rattle.checks.specs.Plan.{plan_facts, payload_checked, stages_checked, size_checked, plan_checked, plan_of, planned_if, planned}
use Rattle.checks.specs.declared.{plan.PlanFacts.PlanFacts, plan.ValidatedControlPlan.ValidatedControlPlan, prepare.SpecFacts.SpecFacts}

-- of a chain that passes: its first test fails, and the rest passes
pub fails : (r : Refusal) (t : Bool) (p : Result ⊤ Refusal) → (Err r if t else p) ≡ (Ok tt) → t ≡ false
unfolding ◌if◌else◌
fails r true p e = cc
fails r false p e = refl

pub rest : (r : Refusal) (t : Bool) (p : Result ⊤ Refusal) → (Err r if t else p) ≡ (Ok tt) → p ≡ (Ok tt)
unfolding ◌if◌else◌
rest r true p e = cc
rest r false p e = e

either : {P : Type 0} (t : Bool) (a b : Result ⊤ Refusal) → (a ≡ (Ok tt) → P) → (b ≡ (Ok tt) → P) → (a if t else b) ≡ (Ok tt) → P
unfolding ◌if◌else◌
either true a b f g e = f e
either false a b f g e = g e

-- IN has no data, and OUT as much as its length
given_small : (inward : Bool) (given length : ℕ) → is_wrong_data inward given length ≡ false → given ≤ length
given_small true g n = caseB (eqb g 0) (λ e. rw e λ h. omega (arith, eqb-true g 0 e)) (λ e. rw e λ h. absurd (let z : ◌≡◌ {A = ℕ} 0 1 = cc in omega arith))
given_small false g n = caseB (eqb g n) (λ e. rw e λ h. omega (arith, eqb-true g n e)) (λ e. rw e λ h. absurd (let z : ◌≡◌ {A = ℕ} 0 1 = cc in omega arith))

module _ (v : SpecFacts) where
  data_small : data_checked v ≡ (Ok tt) → v.data_length ≤ v.length
  unfolding data_checked
  data_small e = given_small v.inward v.data_length v.length (fails _ _ _ e)

  control_small : control_checked v ≡ (Ok tt) → v.data_length ≤ v.length
  unfolding control_checked
  control_small e = data_small (rest _ _ _ (rest _ _ _ (rest _ _ _ (rest _ _ _ (rest _ _ _ (rest _ _ _ e))))))

  other_small : other_checked v ≡ (Ok tt) → v.data_length ≤ v.length
  unfolding other_checked
  other_small e = data_small (rest _ _ _ (rest _ _ _ e))

  spec_fits : spec_checked v ≡ (Ok tt) → (v.length ≤ v.row_bytes) × (v.data_length ≤ v.row_bytes)
  unfolding spec_checked
  spec_fits e =
      let l : v.length ≤ v.row_bytes = ltb-false _ _ (fails _ _ _ (rest _ _ _ e)) in
      let m : v.data_length ≤ v.length = either v.control (control_checked v) (other_checked v) control_small other_small (rest _ _ _ (rest _ _ _ (rest _ _ _ e))) in
      (l, omega arith)

ready_spec : (v : Result ⊤ Refusal) (q : RequestSpec) (m : RequestMetadata) → prepared_if v q ≡ Ok m → (v ≡ (Ok tt)) × (m.requested_length ≡ q.length)
unfolding prepared_if
ready_spec (Err r) q m e = (cc, cc)
ready_spec (Ok tt) q m e = (refl, let z : metadata_of q ≡ m = cc in ap (λ (x : RequestMetadata). x.requested_length) (sym z))

pub ready_fits : (q : RequestSpec) (given row : ℕ) (m : RequestMetadata) → prepared q given row ≡ Ok m → (m.requested_length ≤ row) × (given ≤ row)
unfolding prepared
ready_fits q given row m e =
    let a = ready_spec (spec_checked (spec_facts q given row)) q m e in
    let b : (q.length ≤ row) × (given ≤ row) = spec_fits (spec_facts q given row) a.0 in
    (omega (arith, a.1, b.0), b.1)

module _ (v : PlanFacts) where
  payload_small : payload_checked v ≡ (Ok tt) → v.data_length ≤ v.length
  unfolding payload_checked
  payload_small e = given_small v.inward v.data_length v.length (fails _ _ _ e)

  stages_small : stages_checked v ≡ (Ok tt) → v.data_length ≤ v.length
  unfolding stages_checked
  stages_small e = payload_small (rest _ _ _ (rest _ _ _ (rest _ _ _ e)))

  size_fits : size_checked v ≡ (Ok tt) → (v.length ≤ v.row_bytes) × (v.data_length ≤ v.row_bytes)
  unfolding size_checked
  size_fits e =
      let l : v.length ≤ v.row_bytes = ltb-false _ _ (fails _ _ _ (rest _ _ _ e)) in
      let m : v.data_length ≤ v.length = either v.compliant (stages_checked v) (payload_checked v) stages_small payload_small (rest _ _ _ (rest _ _ _ e)) in
      (l, omega arith)

  plan_fits : plan_checked v ≡ (Ok tt) → (v.length ≤ v.row_bytes) × (v.data_length ≤ v.row_bytes)
  unfolding plan_checked
  plan_fits e = size_fits (rest _ _ _ (rest _ _ _ (rest _ _ _ e)))

ready_plan : (v : Result ⊤ Refusal) (q : ControlPlan) (p : ValidatedControlPlan) → planned_if v q ≡ Ok p
    → (v ≡ (Ok tt)) × (p.metadata.requested_length ≡ (plan_of q).metadata.requested_length)
unfolding planned_if
ready_plan (Err r) q p e = (cc, cc)
ready_plan (Ok tt) q p e = (refl, let z : plan_of q ≡ p = cc in ap (λ (x : ValidatedControlPlan). x.metadata.requested_length) (sym z))

pub planned_fits : (q : ControlPlan) (given row : ℕ) (p : ValidatedControlPlan) → planned q given row ≡ Ok p
    → (p.metadata.requested_length ≤ row) × (given ≤ row)
unfolding planned
planned_fits q given row p e =
    let a = ready_plan (plan_checked (plan_facts q given row)) q p e in
    let b : ((plan_of q).metadata.requested_length ≤ row) × (given ≤ row) = plan_fits (plan_facts q given row) a.0 in
    (omega (arith, a.1, b.0), b.1)
