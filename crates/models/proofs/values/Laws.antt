-- What a tag says, by which an optional value is read. Assumes nothing.
use Prim.Native.Nat.{ℕ}
use mathlib.Core.Path.{◌≡◌, sym, ◌∙◌}
use mathlib.Core.Bool.{cond}
use lib.Dec.{eqb}
use borrow.Author.Tests.{eq-eqb, ne_eqb}

-- what a tag r, read as v, says: x where it is k, y where not
module _ (A : Type 0) (x y z : A) (r v k : ℕ) where
  pub tagged : r ≡ v → r ≡ k → z ≡ x → z ≡ cond (eqb v k) x y
  tagged e f q = rw (eq-eqb v k (sym e ∙ f)) q

  pub untagged : r ≡ v → (r ≡ k → ⊥) → z ≡ y → z ≡ cond (eqb v k) x y
  untagged e f q = rw (ne_eqb v k (λ g. f (e ∙ g))) q
