-- Every number that a change of a row refuses by is in its list. Assumes nothing.
use Rattle.std.specs.Prelude.{Option, Some, None, Result, Ok, Err}
use Prim.Native.Nat.{ℕ}
use mathlib.Core.Bool.{true}
use mathlib.Core.List.{List}
use mathlib.Core.Path.{◌≡◌, refl}
use Rattle.chain.specs.After.{After, after}
use Rattle.chain.specs.Lists.{found_in, all_in}
use Rattle.chain.proofs.Lists.{in_head}
use Rattle.models.specs.Said.{Tabled}
use Rattle.models.specs.declared.{Refusal.Refusal, RequestId.RequestId, RequestReport.RequestReport}
use Rattle.models.proofs.Said.{tabled_says, tabled_own, tabled_in, said_of}
use Rattle.rows.specs.Store.{Store}
use Rattle.rows.specs.Table.{row_in}
use Rattle.rules.specs.Rules.{change_row}
use Rattle.rules.specs.Said.{step_said, change_numbers}
use Rattle.rules.specs.declared.{Change.Change, Step.Step}
use Rattle.rules.proofs.Said.{change_tabled}
use Rattle.ledger.specs.Apply.{apply_by, changed_at, apply_at, apply_of}
use Rattle.ledger.specs.InPlace.{row_placed, apply_placed, placed_said}
use Rattle.ledger.specs.Said.{applied_said, apply_numbers}
use Rattle.ledger.specs.Search.{is_at}

module _ (c : Change) (store : Store) where
  abbrev Answers : List ℕ → After (Result RequestReport Refusal) Store → Type 0
  Answers ns o = Tabled ns (applied_said o.result)

  by_step : (x : Result Step Refusal) → Tabled (change_numbers c) (step_said x) → (i : ℕ) → Answers (change_numbers c) (apply_by x i store)
  unfolding apply_by
  by_step (Err r) h i = h
  by_step (Ok n) h i = h

  pub change_tabled_at : (i : ℕ) → Tabled (change_numbers c) (applied_said (changed_at i c store).result)
  unfolding changed_at
  change_tabled_at i = by_step (change_row (row_in store.rows i) c) (change_tabled _ c) i

  longer : (d : Change) → all_in (change_numbers d) (apply_numbers d) ≡ true
  longer (Change.Accept token) = refl
  longer Change.Discard = refl
  longer Change.LogicalCancel = refl
  longer Change.Timeout = refl
  longer (Change.Complete actual code) = refl
  longer (Change.Fail error code quiescent) = refl
  longer Change.ConfirmAbort = refl
  longer Change.Reclaim = refl
  longer Change.WithdrawCancel = refl

  by_found : (f : Option ℕ) → Answers (apply_numbers c) (apply_at f c store)
  unfolding apply_at
  by_found None = tabled_own _ 40 (in_head 40 (change_numbers c))
  by_found (Some i) = tabled_in _ _ (longer c) _ (change_tabled_at i)

  pub apply_tabled : (id : RequestId) → Tabled (apply_numbers c) (applied_said (apply_of id c store).result)
  unfolding apply_of
  apply_tabled id = by_found (found_in (is_at id) store.rows)

  module _ (x : Result RequestReport Refusal) (left : Store) where
    pub change_said : (i : ℕ) → after x left ≡ changed_at i c store → (after x left ≡ changed_at i c store) × Tabled (change_numbers c) (applied_said x)
    change_said i e = said_of (Answers (change_numbers c)) _ _ e (change_tabled_at i)

    pub apply_said : (id : RequestId) → after x left ≡ apply_of id c store → (after x left ≡ apply_of id c store) × Tabled (apply_numbers c) (applied_said x)
    apply_said id e = said_of (Answers (apply_numbers c)) _ _ e (apply_tabled id)

  -- and of a change in place
  placed_as : (a : Result RequestReport Refusal) (i : ℕ) → Tabled (apply_numbers c) (applied_said a) → Tabled (apply_numbers c) (placed_said (row_placed a i))
  placed_as (Err r) i h = h
  placed_as (Ok x) i h = tabled_says _ _

  placed_tabled : (id : RequestId) → Tabled (apply_numbers c) (placed_said (apply_placed id c store).result)
  unfolding apply_placed
  placed_tabled id = placed_as (apply_of id c store).result _ (apply_tabled id)

  module _ (id : RequestId) (p : Result ℕ Refusal) where
    pub placed_said_lem : (left : Store) → after p left ≡ apply_placed id c store → (after p left ≡ apply_placed id c store) × Tabled (apply_numbers c) (placed_said p)
    placed_said_lem left e = said_of (λ (o : After (Result ℕ Refusal) Store). Tabled (apply_numbers c) (placed_said o.result)) _ _ e (placed_tabled id)

    pub reclaim_said : p ≡ (apply_placed id c store).result → (p ≡ (apply_placed id c store).result) × Tabled (apply_numbers c) (placed_said p)
    reclaim_said e = said_of (λ (y : Result ℕ Refusal). Tabled (apply_numbers c) (placed_said y)) _ _ e (placed_tabled id)
