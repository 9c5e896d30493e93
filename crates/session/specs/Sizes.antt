-- The sizes that a session records, and whether lent slices have them (document 01's 3). Assumes nothing.
use Rattle.std.specs.Prelude.{ℕ, ◌*◌, Bool, ◌&&◌, List, eqb, leb}
use Rattle.words.specs.Records.{splice_cut}
use Rattle.rows.specs.Table.{row_words}
use Rattle.bus.specs.Layout.{bus_words}
use Rattle.session.specs.declared.{Size.Size, sizes.Place.Place}

-- 1 to 1,024 rows of 1 to 65,536 bytes
abbrev pub sized : Size → Bool
sized z = leb 1 z.row_count && leb z.row_count 1024 && leb 1 z.row_bytes && leb z.row_bytes 65536

unfoldable pub rows_fit : Size → ℕ → Bool
rows_fit z words = sized z && eqb words (z.row_count * row_words)

unfoldable pub area_fits : Size → ℕ → Bool
area_fits z area = sized z && eqb area (z.row_count * z.row_bytes)

abbrev pub bus_fits : ℕ → Bool
bus_fits words = eqb words bus_words

-- where a row's bytes start
abbrev pub place_of : Size → ℕ → Place
place_of z i = record { row = i; start = i * z.row_bytes }

-- a valid completion's data overwrites the first of row i's bytes only, cut at their end
abbrev pub data_at : Size → ℕ → List ℕ → List ℕ → List ℕ
data_at z i bytes area = splice_cut (place_of z i).start z.row_bytes bytes area

-- rows and area, and the bus
abbrev pub memory_sizes : Size → ℕ → ℕ → Bool
memory_sizes z words area = rows_fit z words && area_fits z area

abbrev pub lent_sizes : Size → ℕ → ℕ → ℕ → Bool
lent_sizes z words area bus = memory_sizes z words area && bus_fits bus
