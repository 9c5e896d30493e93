-- Laws of the small values' words. Assumes nothing.
use Rattle.std.specs.Prelude.{Some}
use Prim.Native.Nat.{ℕ, ◌+◌, ◌-◌, ◌%◌, ◌<◌, ◌^◌}
use mathlib.Core.Path.{◌≡◌, refl}
use mathlib.Core.Bool.{Bool, true, false}
use native.Mathlib.Omega.{arith}
use native.Mathlib.Nat.{mod-eq_of_lt}
use borrow.Author.Tests.{ne_eqb}
use Rattle.words.specs.Words.{read_flag, flag_word, read_option_u32}

pub flag_back : (b : Bool) → read_flag (flag_word b) ≡ b
flag_back true = refl
flag_back false = refl

-- a value of k bits is what its low k bits decode to
pub low : (k : ℕ) {v : ℕ} → v < 2 ^ k → v % 2 ^ k ≡ v
low k h = mod-eq_of_lt h

pub option_u32_back : (v : ℕ) → v < 2 ^ 32 → read_option_u32 (v + 1) ≡ Some v
option_u32_back v h = let e : v + 1 - 1 ≡ v = omega arith in simp (ne_eqb (v + 1) 0 (omega arith), e, low 32 h)
