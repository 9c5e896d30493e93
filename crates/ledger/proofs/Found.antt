-- What a caller knows of a row that was found. Assumes nothing.
use Rattle.std.specs.Prelude.{Option, Some, None, Result, Ok, Err, ok_or}
use Prim.Native.Nat.{ℕ, ◌<◌}
use mathlib.Core.Path.{◌≡◌, refl, sym, ◌∙◌}
use mathlib.Core.Bool.{Bool, true, false}
use mathlib.Core.List.{List}
use lib.ListN.{length, get_or}
use borrow.Author.Tests.{not-true}
use Rattle.chain.specs.Lists.{found_in}
use Rattle.chain.proofs.Lists.{place}
use Rattle.models.specs.Refusals.{refusal_of}
use Rattle.models.specs.declared.{Refusal.Refusal, RequestId.RequestId}
use Rattle.rows.specs.Table.{empty_row}
use Rattle.rows.specs.declared.{Row.Row}
use Rattle.ledger.specs.Search.{is_at, is_free, place_to_change}

-- it is inside, and passes the test
placed : (p : Row → Bool) (rows : List Row) (f : Option ℕ) (i : ℕ) → f ≡ found_in p rows → f ≡ Some i → (i < length rows) × (p (get_or rows i empty_row) ≡ true)
placed p rows f i ef e = let z = place p rows empty_row f i ef e in (z.below, z.passes)

pub found_in_lem : (p : Row → Bool) (rows : List Row) (f : Option ℕ) (i : ℕ) → f ≡ found_in p rows → f ≡ Some i → i < length rows
found_in_lem p rows f i ef e = (placed p rows f i ef e).0

pub found_row : (id : RequestId) (rows : List Row) (f : Option ℕ) (i : ℕ) → f ≡ found_in (is_at id) rows → f ≡ Some i
    → (i < length rows) × (is_at id (get_or rows i empty_row) ≡ true)
found_row id rows f i ef e = placed (is_at id) rows f i ef e

-- the first free row
pub free_row : (rows : List Row) (f : Option ℕ) (i : ℕ) → f ≡ found_in is_free rows → f ≡ Some i → (i < length rows) × ((get_or rows i empty_row).used ≡ false)
unfolding is_free
free_row rows f i ef e = let z = placed is_free rows f i ef e in (z.0, not-true (get_or rows i empty_row).used z.1)

-- the place for a change: where it is told, the row was found
module _ (id : RequestId) (rows : List Row) (r : Result ℕ Refusal) (e : r ≡ place_to_change id rows) where
  pub place_told : (i : ℕ) → r ≡ Ok i → found_in (is_at id) rows ≡ Some i
  place_told i y = by (found_in (is_at id) rows) (sym e ∙ y)
    where
      by : (f : Option ℕ) → ok_or f (refusal_of 40) ≡ Ok i → f ≡ Some i
      by None z = cc
      by (Some k) z = cc

  pub place_none : (x : Refusal) → r ≡ Err x → (found_in (is_at id) rows ≡ None) × (x ≡ refusal_of 40)
  place_none x y = by (found_in (is_at id) rows) (sym e ∙ y)
    where
      by : (f : Option ℕ) → ok_or f (refusal_of 40) ≡ Err x → (f ≡ None) × (x ≡ refusal_of 40)
      by None z = (refl, cc)
      by (Some k) z = cc

  pub place_in : (i : ℕ) → r ≡ Ok i → i < length rows
  place_in i y = found_in_lem (is_at id) rows (found_in (is_at id) rows) i refl (place_told i y)
