-- What it means of a submission that a reading is wanted, or none. Assumes nothing.
use Rattle.std.specs.Prelude.{Option, Some, None, ℕ, ◌≡◌, Result, Ok, Err}
use Rattle.models.specs.declared.{OperationError.OperationError}
use Rattle.targets.specs.declared.{Readings.Readings, wants.Wanted.Wanted}

-- r is the reading a where a was taken, and any where it was not
abbrev pub Taken : Result ℕ OperationError → Result ℕ OperationError → Type 0
Taken (Err e) r = Unit {0}
Taken (Ok raw) r = r ≡ Ok raw

-- of submissions that do what A holds; `refused e` says of one that it is refused by 33 with the error e
module _ {A : Type 0} (refused : OperationError → A → Type 0) where
  -- the reading was not taken, and refuses the submission
  abbrev pub Fails : Result ℕ OperationError → A → Type 0
  Fails (Err e) a = refused e a
  Fails (Ok raw) a = ⊥

  -- what a submission does is a by the readings x, of which one is wanted or none, and b by the readings y: one that is wanted refuses it,
  -- and where none is wanted those that were not taken do not matter
  abbrev pub Means : Option Wanted → Readings → Readings → A → A → Type 0
  Means None x y a b = Taken x.first y.first → Taken x.second y.second → b ≡ a
  Means (Some (Wanted.First number)) x y a b = Fails x.first a
  Means (Some (Wanted.Second number)) x y a b = Fails x.second a
