-- A change of row i by the row's step, and of the row of an id by what the search says. Assumes nothing.
use Rattle.std.specs.Prelude.{Result, Ok, Err}
use Prim.Native.Nat.{ℕ}
use mathlib.Core.Path.{◌≡◌, ◌∙◌}
use Rattle.chain.specs.After.{After, after}
use Rattle.models.specs.declared.{Refusal.Refusal, RequestId.RequestId, RequestReport.RequestReport}
use Rattle.rows.specs.Table.{row_in}
use Rattle.rows.specs.Store.{Store}
use Rattle.rows.specs.declared.{Row.Row}
use Rattle.ledger.specs.Search.{place_to_change}
use Rattle.ledger.proofs.Found.{place_told, place_none}
use Rattle.rules.specs.Rules.{change_row}
use Rattle.ledger.specs.Apply.{apply_by, changed_at, apply_at, apply_of}
use Rattle.rules.specs.declared.{Change.Change, Step.Step}

module _ (i : ℕ) (c : Change) (s : Store) (row : Row) (m : Result Step Refusal) (er : row ≡ row_in s.rows i) (em : m ≡ change_row row c) where
  pub change_no : (r : Refusal) → m ≡ Err r → after (Err r) s ≡ changed_at i c s
  unfolding changed_at apply_by
  change_no r et = rw (← er, ← em, et)

module _ (id : RequestId) (c : Change) (s : Store) (f : Result ℕ Refusal) (ef : f ≡ place_to_change id s.rows) where
  pub apply_none : (r : Refusal) → f ≡ Err r → after (Err r) s ≡ apply_of id c s
  unfolding apply_of apply_at
  apply_none r e = let z = place_none id s.rows f ef r e in rw (z.0, z.1)

  pub apply_at_lem : (i : ℕ) (y : After (Result RequestReport Refusal) Store) → f ≡ Ok i → y ≡ changed_at i c s → y ≡ apply_of id c s
  unfolding apply_of apply_at
  apply_at_lem i y e ey = ey ∙ rw (place_told id s.rows f ef i e)
