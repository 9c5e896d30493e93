-- Fields of a number, each of its own width in bits, the most significant first. Assumes nothing.
use Rattle.std.specs.Prelude.{ℕ, ◌+◌, ◌*◌, ◌^◌, Bool, true, false, ◌&&◌, List, [], ◌∷◌, ltb}
use Rattle.standards.specs.Fields.{field}

-- how many bits the fields have together
abbrev pub bits_of : List ℕ → ℕ
bits_of [] = 0
bits_of (w ∷ ws) = w + bits_of ws

-- the fields of n
abbrev pub fields_of : List ℕ → ℕ → List ℕ
fields_of [] n = []
fields_of (w ∷ ws) n = field (bits_of ws) w n ∷ fields_of ws n

-- the number of the fields xs
abbrev pub packed : List ℕ → List ℕ → ℕ
packed [] xs = 0
packed (w ∷ ws) [] = 0
packed (w ∷ ws) (x ∷ xs) = x * 2 ^ bits_of ws + packed ws xs

-- as many fields as widths, each within its own
abbrev pub are_fields : List ℕ → List ℕ → Bool
are_fields [] [] = true
are_fields [] (x ∷ xs) = false
are_fields (w ∷ ws) [] = false
are_fields (w ∷ ws) (x ∷ xs) = ltb x (2 ^ w) && are_fields ws xs
