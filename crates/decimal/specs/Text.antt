-- Numbers as decimal text. Assumes nothing.
use Rattle.std.specs.Prelude.{ℕ, zero, suc, ◌+◌, ◌-◌, ◌*◌, ◌/◌, ◌%◌, cond, List, [], ◌∷◌, ◌++◌, ltb, length}
use Rattle.chain.specs.After.{After, after}
use Rattle.words.specs.Records.{splice}

-- the last digit comes after those of a tenth; k digits are enough for a number below 10 ^ k
abbrev pub decimal_in : ℕ → ℕ → List ℕ
decimal_in zero n = []
decimal_in (suc k) n = cond (ltb n 10) ((48 + n) ∷ []) (decimal_in k (n / 10) ++ ((48 + n % 10) ∷ []))

-- a number below 2 ^ 64 in decimal
unfoldable pub decimal : ℕ → List ℕ
decimal n = decimal_in 20 n

-- what digits say, the first the highest
abbrev pub value_from : ℕ → List ℕ → ℕ
value_from n [] = n
value_from n (c ∷ cs) = value_from (n * 10 + (c - 48)) cs

abbrev pub space : ℕ
space = 32

abbrev pub newline : ℕ
newline = 10

-- text at a place of a list, and where it ends
abbrev pub appended : List ℕ → ℕ → List ℕ → After ℕ (List ℕ)
appended text at l = after (at + length text) (splice at text l)
