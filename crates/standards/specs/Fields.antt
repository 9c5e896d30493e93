-- Fields of a number's bits, which are counted from 0 at the lowest. Assumes nothing.
use Rattle.std.specs.Prelude.{ℕ, ◌/◌, ◌%◌, ◌^◌, Bool, eqb}

-- bits lo to lo + width - 1
abbrev pub field : ℕ → ℕ → ℕ → ℕ
field lo width x = x / 2 ^ lo % 2 ^ width

-- bit k is set
abbrev pub bit : ℕ → ℕ → Bool
bit k x = eqb (field k 1 x) 1
