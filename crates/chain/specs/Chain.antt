-- Chains of checks, from the first to the last: how a refusal table is written. Assumes nothing.
use Rattle.std.specs.Prelude.{Bool, true, false}

-- `a if t else p` is a where the test t holds, and p where it fails
infixr 5 ◌if◌else◌
unfoldable pub ◌if◌else◌ : {A : Type 0} → A → Bool → A → A
a if true else p = a
a if false else p = p
