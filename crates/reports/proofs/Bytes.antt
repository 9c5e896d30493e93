-- Where the bytes of a row lie, by a test of the sizes that came out true. Assumes nothing.
use Rattle.std.specs.Prelude.{Option, Some}
use Prim.Native.Nat.{ℕ, ◌+◌, ◌*◌, ◌≤◌}
use mathlib.Core.Bool.{Bool, false, not}
use mathlib.Core.List.{List}
use mathlib.Core.Path.{◌≡◌}
use lib.ListN.{length}
use Rattle.chain.specs.Lists.{found_in}
use Rattle.chain.proofs.Chain.{fits_told}
use Rattle.rows.specs.Table.{read_rows}
use Rattle.rows.specs.declared.{Row.Row}
use Rattle.ledger.proofs.Found.{found_in_lem}
use Rattle.session.specs.Sizes.{memory_sizes}
use Rattle.session.specs.declared.{Size.Size}
use Rattle.session.proofs.sizes.Laws.{place_in_lem}

module _ (z : Size) (w : List ℕ) (size : ℕ) (f : Bool) (ef : f ≡ memory_sizes z (length w) size) (t : not f ≡ false) where
  -- of a row that was found
  pub found_place : (p : Row → Bool) (g : Option ℕ) (i : ℕ) → g ≡ found_in p (read_rows w) → g ≡ Some i
      → i * z.row_bytes + z.row_bytes ≤ size
  found_place p g i eg e = place_in_lem z w size (fits_told f _ ef t) i (found_in_lem p (read_rows w) g i eg e)
