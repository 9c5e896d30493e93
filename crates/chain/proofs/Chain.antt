-- Laws of chains of checks. A proof walks a chain from its front by `search chain depth N`, N above the number of checks: at each
-- `return` the code's tests say which law serves at each check. Assumes nothing.
use Prim.Native.Nat.{ℕ}
use mathlib.Core.Bool.{Bool, true, false, not, ◌&&◌, ◌||◌, true≢false}
use mathlib.Core.Path.{◌≡◌, refl, ap, sym, ◌∙◌}
use borrow.Author.Tests.{not-false, eq-eqb, ne_eqb, lt-ltb, le-ltb, le-leb, lt-leb}
use lib.Dec.{eqb}
use Rattle.chain.specs.Chain.{◌if◌else◌}

-- by the value of a test, with its equation: the goal is not written, `rw e` puts the value in
pub caseB {ℓ} : {P : Type ℓ} (t : Bool) → (t ≡ true → P) → (t ≡ false → P) → P
caseB true a b = a refl
caseB false a b = b refl

module _ (A : Type 0) (a : A) (t : Bool) (p r : A) where
  pub takes : t ≡ true → r ≡ a → r ≡ (a if t else p)
  unfolding ◌if◌else◌
  takes e q = rw e q

  pub passes : t ≡ false → r ≡ p → r ≡ (a if t else p)
  unfolding ◌if◌else◌
  passes e q = rw e q

-- what a test was found to be: of `a != b`, which is `not (eqb a b)`
pub eq_not : (a b : ℕ) → a ≡ b → not (eqb a b) ≡ false
eq_not a b e = ap not (eq-eqb a b e)

pub ne_not : (a b : ℕ) → (a ≡ b → ⊥) → not (eqb a b) ≡ true
ne_not a b e = ap not (ne_eqb a b e)

-- of a call whose result s is t by its contract, as `if f(x)` and `if !f(x)` have it
pub through : (s t b : Bool) → s ≡ t → s ≡ b → t ≡ b
through s t b e f = sym e ∙ f

pub not_through : (s t b : Bool) → s ≡ t → not s ≡ b → not t ≡ b
not_through s t b e f = ap not (sym e) ∙ f

-- of a call s, by contract t, whose negation was found false
pub fits_told : (s t : Bool) → s ≡ t → not s ≡ false → t ≡ true
fits_told s t e f = sym e ∙ not-false s f

-- of two tests by `&&`, and of a negation
pub both : (a b : Bool) → (a && b) ≡ true → (a ≡ true) × (b ≡ true)
both true b e = (refl, e)
both false b e = (e, cc)

pub and3 : (a b c : Bool) → (a && b && c) ≡ true → (a ≡ true) × (b ≡ true) × (c ≡ true)
and3 a b c e = let p = both (a && b) c e in let q = both a b p.0 in (q.0, q.1, p.1)

-- of two tests by `||` that both fail
pub or_false : (a b : Bool) → (a || b) ≡ false → (a ≡ false) × (b ≡ false)
or_false true b e = absurd (true≢false e)
or_false false b e = (refl, e)

pub and_false : (a : Bool) → (a && false) ≡ false
and_false true = refl
and_false false = refl

pub ruleset chain = (takes, passes, eq-eqb, ne_eqb, eq_not, ne_not, lt-ltb, le-ltb, le-leb, lt-leb, through, not_through)

-- what holds of both ways holds of the chain
pub if_all : {A : Type 0} (P : A → Type 0) (a : A) (t : Bool) (p : A) → P a → P p → P (a if t else p)
unfolding ◌if◌else◌
if_all P a true p x y = x
if_all P a false p x y = y

-- and what holds of each way by its test
pub if_by : {A : Type 0} (P : A → Type 0) (a : A) (t : Bool) (p : A) → (t ≡ true → P a) → (t ≡ false → P p) → P (a if t else p)
unfolding ◌if◌else◌
if_by P a true p x y = x refl
if_by P a false p x y = y refl
