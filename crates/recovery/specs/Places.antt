-- What the functions that apply entries ask of the lent slices. Assumes nothing.
use Rattle.std.specs.Prelude.{ℕ, ◌<◌, ◌≤◌, true, List, ◌≡◌, length, get_or}
use Rattle.rows.specs.Table.{read_rows}
use Rattle.session.specs.Sizes.{memory_sizes}
use Rattle.session.specs.declared.{Size.Size}
use Rattle.scope.specs.Returned.{lists_agree}

-- the store has rows, and each place is one of them
pub record Below (w : List ℕ) (places : List ℕ) : Type 0 where
  pub some : 1 ≤ length (read_rows w)
  pub inside : (k : ℕ) → k < length places → get_or places k 0 < length (read_rows w)

-- rows and area have their sizes
pub record Fit (z : Size) (w area : List ℕ) : Type 0 where
  pub sizes : memory_sizes z (length w) (length area) ≡ true

-- both
pub record Places (z : Size) (w area places : List ℕ) : Type 0 where
  pub fit : Fit z w area
  pub below : Below w places

-- each entry has its completion, and all of them the data
abbrev pub Agree : List ℕ → List ℕ → List ℕ → Type 0
Agree tokens completions bytes = lists_agree (length tokens) completions (length bytes) ≡ true
