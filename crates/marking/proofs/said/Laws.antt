-- What a flag of an event decides, and the completion that it brings. Assumes nothing.
use Rattle.std.specs.Prelude.{Option, Some, None, Result, Ok}
use Prim.Native.Nat.{ℕ}
use native.Mathlib.Omega.{arith}
use mathlib.Core.Bool.{Bool, true, false, cond, not}
use mathlib.Core.Path.{◌≡◌}
use Rattle.models.specs.declared.{BackendCompletion.BackendCompletion, OperationError.OperationError}

-- a flag f that was read as t decides between a and b
module _ (A : Type 0) (a b : A) where
  -- b where it is not set
  pub flag_off : (f t : Bool) → f ≡ t → not f ≡ true → b ≡ cond t a b
  flag_off true t e h = let z : ◌≡◌ {A = ℕ} 0 1 = cc in absurd (omega arith)
  flag_off false t e h = rw (← e)

  -- a where it is
  pub flag_on : (f t : Bool) → f ≡ t → not f ≡ false → a ≡ cond t a b
  flag_on true t e h = rw (← e)
  flag_on false t e h = let z : ◌≡◌ {A = ℕ} 0 1 = cc in absurd (omega arith)

-- a completion comes whole where its flag is set
pub reply_on : (y x : BackendCompletion) (f t : Bool) → f ≡ t → not f ≡ false → y ≡ x
    → ◌≡◌ {A = Result (Option BackendCompletion) OperationError} (Ok (Some y)) (cond t (Ok (Some x)) (Ok None))
reply_on y x f t e h ey = rw ey (flag_on (Result (Option BackendCompletion) OperationError) (Ok (Some x)) (Ok None) f t e h)
