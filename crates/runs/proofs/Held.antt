-- Held rows, and rows of which none is. Assumes nothing.
use Prim.Native.Nat.{ℕ, ◌≤◌}
use mathlib.Core.Bool.{Bool, true, false, cond, ◌&&◌, ◌||◌, true≢false}
use mathlib.Core.List.{List}
use mathlib.Core.Path.{◌≡◌, refl, sym, ◌∙◌}
use native.Mathlib.Omega.{arith}
use borrow.Author.Tests.{lt-ltb, ltb-true, ltb-false}
use lib.Dec.{ltb}
use lib.ListN.{length}
use Rattle.chain.specs.Lists.{count, find, any_in}
use Rattle.chain.proofs.Chain.{caseB, both}
use Rattle.chain.proofs.Lists.{count_pos, find_hit, find_some}
use Rattle.models.specs.Requests.{device_may_access}
use Rattle.rows.specs.Codec.{read_row}
use Rattle.rows.specs.Table.{empty_row, is_held}
use Rattle.rows.specs.declared.{Row.Row}

pub or_right : (a b : Bool) → a ≡ false → (a || b) ≡ true → b ≡ true
or_right true b n e = absurd (true≢false n)
or_right false b n e = e

pub and_less : (a b : Bool) → cond {A = ℕ} (a && b) 1 0 ≤ cond {A = ℕ} a 1 0
and_less true true = omega arith
and_less true false = omega arith
and_less false b = omega arith

pub and_off : (u d : Bool) → d ≡ false → (u && d) ≡ false
and_off true d e = e
and_off false d e = refl

pub unheld_row : (r : Row) → device_may_access r.state ≡ false → is_held r ≡ false
unfolding is_held
unheld_row r e = and_off r.used (device_may_access r.state) e

pub free_held : (r : Row) → r.used ≡ false → is_held r ≡ false
unfolding is_held
free_held r e = rw e

pub empty_free : empty_row.used ≡ false
unfolding empty_row read_row
empty_free = refl

pub held_used : (r : Row) → is_held r ≡ true → r.used ≡ true
unfolding is_held
held_used r e = (both r.used (device_may_access r.state) e).0

pub any_count : {A : Type 0} (p : A → Bool) (l : List A) (d : A) → any_in p l ≡ ltb 0 (count p l)
any_count p l d =
    caseB (ltb 0 (count p l))
    (λ e. let h = ltb-true 0 (count p l) e in lt-ltb (find p l) (length l) (find_some p l h) ∙ sym e)
    (λ e. let h = ltb-false 0 (count p l) e in
    caseB (any_in p l)
    (λ y. let g = ltb-true (find p l) (length l) y in absurd (omega (arith, count_pos p l (find p l) d g (find_hit p l d g))))
    (λ y. y ∙ sym e))
