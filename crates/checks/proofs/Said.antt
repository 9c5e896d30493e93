-- Every number that a check of packets, of a request, of a plan or of a completion refuses by is in its list. Assumes nothing.
use Rattle.std.specs.Prelude.{Option, Result, Ok, Err, ⊤}
use Prim.Native.Nat.{ℕ}
use mathlib.Core.Bool.{Bool, true}
use mathlib.Core.List.{List}
use mathlib.Core.Path.{◌≡◌, refl}
use Rattle.chain.specs.Lists.{is_among}
use Rattle.chain.proofs.Chain.{if_all}
use Rattle.models.specs.Refusals.{rejected}
use Rattle.models.specs.Said.{Tabled, verdict_said}
use Rattle.models.specs.declared.{BackendCompletion.BackendCompletion, ControlPlan.ControlPlan, Refusal.Refusal, RequestMetadata.RequestMetadata, RequestSpec.RequestSpec, TransferType.TransferType}
use Rattle.models.proofs.Said.{tabled_says, tabled_own, tabled_code, tabled_stop, said_of}
use Rattle.checks.specs.Completion.{test_completion}
use Rattle.checks.specs.Packets.{packets_checked}
use Rattle.checks.specs.Plan.{plan_facts, payload_checked, stages_checked, size_checked, plan_checked, planned_if, planned}
use Rattle.checks.specs.Prepare.{spec_facts, data_checked, control_checked, other_checked, spec_checked, prepared_if, prepared}
use Rattle.checks.specs.Said.{prepared_said, planned_said, test_said, packets_numbers, prepare_numbers, plan_numbers, completion_numbers}
use Rattle.checks.specs.declared.{completion.CompletionFault.CompletionFault, completion.ValidCompletion.ValidCompletion, plan.PlanFacts.PlanFacts, plan.ValidatedControlPlan.ValidatedControlPlan, prepare.SpecFacts.SpecFacts}

-- a check by n, then the others
abbrev Of : List ℕ → Result ⊤ Refusal → Type 0
Of ns v = Tabled ns (verdict_said v)

module _ (given : Bool) (packets : List ℕ) (type : TransferType) (size : ℕ) where
  pub packets_tabled : Tabled packets_numbers (verdict_said (packets_checked given packets type size))
  unfolding packets_checked
  packets_tabled =
      if_all (Of packets_numbers) _ _ _ (tabled_says _ _)
      (tabled_stop _ 4 refl _ _ (tabled_stop _ 4 refl _ _ (tabled_stop _ 4 refl _ _ (tabled_says _ _))))

-- a verdict by its number
pub rejected_tabled : (ns : List ℕ) (n : ℕ) (v : Result ⊤ Refusal) → is_among n ns ≡ true → v ≡ rejected n → Tabled ns (verdict_said v)
rejected_tabled ns n v h e = rw e (tabled_own ns n h)

module _ (v : SpecFacts) where
  data_tabled : Of prepare_numbers (data_checked v)
  unfolding data_checked
  data_tabled = tabled_stop _ 17 refl _ _ (tabled_says _ _)

  control_tabled : Of prepare_numbers (control_checked v)
  unfolding control_checked
  control_tabled =
      tabled_stop _ 9 refl _ _ (tabled_stop _ 10 refl _ _ (tabled_stop _ 11 refl _ _ (tabled_stop _ 12 refl _ _
      (tabled_stop _ 13 refl _ _ (tabled_stop _ 14 refl _ _ data_tabled)))))

  other_tabled : Of prepare_numbers (other_checked v)
  unfolding other_checked
  other_tabled = tabled_stop _ 15 refl _ _ (tabled_stop _ 16 refl _ _ data_tabled)

  pub spec_tabled : Of prepare_numbers (spec_checked v)
  unfolding spec_checked
  spec_tabled =
      tabled_stop _ 6 refl _ _ (tabled_stop _ 7 refl _ _ (tabled_stop _ 8 refl _ _
      (if_all (Of prepare_numbers) _ _ _ control_tabled other_tabled)))

module _ (q : RequestSpec) (m row : ℕ) where
  prepared_by : (v : Result ⊤ Refusal) → Of prepare_numbers v → Tabled prepare_numbers (prepared_said (prepared_if v q))
  unfolding prepared_if
  prepared_by (Err r) h = h
  prepared_by (Ok tt) h = tabled_says _ _

  pub prepared_tabled : Tabled prepare_numbers (prepared_said (prepared q m row))
  unfolding prepared
  prepared_tabled = prepared_by (spec_checked (spec_facts q m row)) (spec_tabled _)

  pub prepared_said_lem : (x : Result RequestMetadata Refusal) → x ≡ prepared q m row → (x ≡ prepared q m row) × Tabled prepare_numbers (prepared_said x)
  prepared_said_lem x e = said_of (λ (y : Result RequestMetadata Refusal). Tabled prepare_numbers (prepared_said y)) _ _ e prepared_tabled

module _ (v : PlanFacts) where
  payload_tabled : Of plan_numbers (payload_checked v)
  unfolding payload_checked
  payload_tabled = tabled_stop _ 24 refl _ _ (tabled_stop _ 25 refl _ _ (tabled_says _ _))

  stages_tabled : Of plan_numbers (stages_checked v)
  unfolding stages_checked
  stages_tabled = tabled_stop _ 21 refl _ _ (tabled_stop _ 22 refl _ _ (tabled_stop _ 23 refl _ _ payload_tabled))

  size_tabled : Of plan_numbers (size_checked v)
  unfolding size_checked
  size_tabled = tabled_stop _ 6 refl _ _ (tabled_stop _ 7 refl _ _ (if_all (Of plan_numbers) _ _ _ stages_tabled payload_tabled))

  pub plan_tabled : Tabled plan_numbers (verdict_said (plan_checked v))
  unfolding plan_checked
  plan_tabled = tabled_stop _ 18 refl _ _ (tabled_stop _ 19 refl _ _ (tabled_stop _ 20 refl _ _ size_tabled))

module _ (q : ControlPlan) (m row : ℕ) where
  planned_by : (v : Result ⊤ Refusal) → Of plan_numbers v → Tabled plan_numbers (planned_said (planned_if v q))
  unfolding planned_if
  planned_by (Err r) h = h
  planned_by (Ok tt) h = tabled_says _ _

  pub planned_tabled : Tabled plan_numbers (planned_said (planned q m row))
  unfolding planned
  planned_tabled = planned_by (plan_checked (plan_facts q m row)) (plan_tabled _)

  pub planned_said_lem : (x : Result ValidatedControlPlan Refusal) → x ≡ planned q m row → (x ≡ planned q m row) × Tabled plan_numbers (planned_said x)
  planned_said_lem x e = said_of (λ (y : Result ValidatedControlPlan Refusal). Tabled plan_numbers (planned_said y)) _ _ e planned_tabled

pub test_tabled : (code : Option ℕ) (t : Result ValidCompletion CompletionFault) → Tabled completion_numbers (test_said code t)
test_tabled code (Ok v) = tabled_says _ _
test_tabled code (Err CompletionFault.MissingLength) = tabled_own _ 47 refl
test_tabled code (Err CompletionFault.Invalid) = tabled_code _ code refl

pub test_said_lem : (c : BackendCompletion) (given requested : ℕ) (x : Result ValidCompletion CompletionFault) → x ≡ test_completion c given requested
    → (x ≡ test_completion c given requested) × Tabled completion_numbers (test_said c.completion_code x)
test_said_lem c given requested x e = (e, test_tabled c.completion_code x)
