-- The lines that the programs write. Assumes nothing.
use Rattle.std.specs.Prelude.{ℕ, ◌+◌, ◌-◌, List, [], ◌∷◌, ◌++◌, get_or}
use Rattle.std.specs.Fmt.{decimal}
use Rattle.words.specs.Records.{tab}

-- numbers in decimal, each after a space
abbrev pub numbers_text : List ℕ → List ℕ
numbers_text [] = []
numbers_text (n ∷ ns) = (32 ∷ decimal n) ++ numbers_text ns

-- a line: a name, and numbers
abbrev pub numbered_line : List ℕ → List ℕ → List ℕ
numbered_line name ns = name ++ (numbers_text ns ++ (10 ∷ []))

-- the words from `from` up to `to`, 0 where there are none
abbrev pub words_between : List ℕ → ℕ → ℕ → List ℕ
words_between w from to = tab (λ k. get_or w (from + k) 0) (to - from)
