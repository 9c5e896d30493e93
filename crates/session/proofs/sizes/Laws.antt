-- The size tests: what each one says where it comes out true, and where a row's bytes lie in the area. Assumes nothing.
use Prim.Native.Nat.{ℕ, ◌+◌, ◌*◌, ◌<◌, ◌≤◌}
use mathlib.Core.Bool.{Bool, true, false, not}
use mathlib.Core.List.{List}
use mathlib.Core.Path.{◌≡◌, ap, ◌∙◌}
use native.Mathlib.Nat.{mul-le-mul}
use native.Mathlib.Omega.{arith}
use borrow.Author.Tests.{leb-true, eqb-true}
use lib.ListN.{length}
use Rattle.chain.proofs.Chain.{both, fits_told}
use Rattle.words.specs.Records.{splice_cut}
use Rattle.words.proofs.Records.{record_in}
use Rattle.rows.specs.Table.{row_words, row_count, read_rows}
use Rattle.rows.proofs.Rows.{length-read_rows}
use Rattle.bus.specs.Layout.{bus_words}
use Rattle.session.specs.Sizes.{sized, rows_fit, area_fits, bus_fits, place_of, data_at, memory_sizes, lent_sizes}
use Rattle.session.specs.declared.{Size.Size, sizes.Place.Place}

-- 1 to 1,024 rows of 1 to 65,536 bytes
pub record Sized (z : Size) : Type 0 where
  pub some_rows : 1 ≤ z.row_count
  pub few_rows : z.row_count ≤ 1024
  pub some_bytes : 1 ≤ z.row_bytes
  pub few_bytes : z.row_bytes ≤ 65536

module _ (z : Size) where
  sized_is : sized z ≡ true → Sized z
  sized_is e =
      let a = both _ _ e in
      let b = both _ _ a.0 in
      let c = both _ _ b.0 in
      record { some_rows = leb-true _ _ c.0; few_rows = leb-true _ _ c.1; some_bytes = leb-true _ _ b.1; few_bytes = leb-true _ _ a.1 }

  pub product_small : Sized z → z.row_count * z.row_bytes ≤ 67108864
  product_small s = mul-le-mul s.few_rows s.few_bytes

  -- the rows have their size
  module _ (words : ℕ) (e : rows_fit z words ≡ true) where
    pub rows_sized : Sized z
    unfolding rows_fit
    rows_sized = sized_is (both _ _ e).0

    pub rows_words : words ≡ z.row_count * row_words
    unfolding rows_fit
    rows_words = eqb-true _ _ (both (sized z) _ e).1

  pub rows_number : (l : List ℕ) → rows_fit z (length l) ≡ true → length (read_rows l) ≡ z.row_count
  unfolding row_count
  rows_number l e = omega (arith, rows_words (length l) e, length-read_rows l)

  -- and the area, of which row i has a part
  module _ (l : List ℕ) (area : ℕ) (e : memory_sizes z (length l) area ≡ true) where
    pub area_bytes : area ≡ z.row_count * z.row_bytes
    unfolding area_fits
    area_bytes = eqb-true _ _ (both (sized z) _ (both (rows_fit z (length l)) _ e).1).1

    pub memory_rows : length (read_rows l) ≡ z.row_count
    memory_rows = rows_number l (both (rows_fit z (length l)) _ e).0

    module _ (i : ℕ) (h : i < length (read_rows l)) where
      pub place_in_lem : i * z.row_bytes + z.row_bytes ≤ area
      place_in_lem = omega (arith, area_bytes, memory_rows, record_in z.row_bytes z.row_count i (omega (arith, h, memory_rows)))

      pub place_small : i * z.row_bytes ≤ 67108864
      place_small = omega (arith, area_bytes, place_in_lem, product_small (rows_sized (length l) (both (rows_fit z (length l)) _ e).0))

  -- and the bus
  module _ (words area bus : ℕ) (e : lent_sizes z words area bus ≡ true) where
    pub lent_memory : memory_sizes z words area ≡ true
    lent_memory = (both (memory_sizes z words area) (bus_fits bus) e).0

    pub lent_bus : bus ≡ bus_words
    lent_bus = eqb-true _ _ (both (memory_sizes z words area) (bus_fits bus) e).1

  -- a call f of the test that was found true
  pub fit_bus : (words area bus : ℕ) (f : Bool) → f ≡ lent_sizes z words area bus → not f ≡ false → bus ≡ bus_words
  fit_bus words area bus f e n = lent_bus words area bus (fits_told f _ e n)

-- a row's bytes by its place
module _ (z : Size) (i : ℕ) (p : Place) (e : p ≡ place_of z i) where
  pub data_in : (n : ℕ) → i * z.row_bytes + z.row_bytes ≤ n → p.start + z.row_bytes ≤ n
  data_in n h = rw e h

  pub data_put : (bytes area left : List ℕ) → left ≡ splice_cut p.start z.row_bytes bytes area → left ≡ data_at z i bytes area
  data_put bytes area left ea = ea ∙ ap (λ (q : Place). splice_cut q.start z.row_bytes bytes area) e
