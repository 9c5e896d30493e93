-- Laws of the walk over the packets: s is the sum of the first i. Assumes nothing.
use Prim.Native.Nat.{ℕ, suc, ◌+◌, ◌-◌, ◌<◌, ◌≤◌}
use mathlib.Core.Bool.{false}
use mathlib.Core.List.{List}
use mathlib.Core.Path.{◌≡◌, sym, ap, ◌∙◌}
use native.Mathlib.Numerals.{add-one}
use native.Mathlib.Omega.{arith}
use lib.Dec.{eqb}
use lib.ListN.{length, get_or, take}
use lib.Seq.{take_all}
use borrow.Author.Tests.{ne_eqb}
use Rattle.chain.proofs.Lists.{sum_suc, sum_take}
use Rattle.checks.specs.Packets.{total}

pub sum_on : (l : List ℕ) (i s : ℕ) → i < length l → s ≡ total (take i l) → s + get_or l i 0 ≡ total (take (i + 1) l)
sum_on l i s h e = rw add-one (omega (arith, sum_suc (λ n. n) l i 0 h))

-- the next packet passes the length
pub sum_over : (l : List ℕ) (i s n : ℕ) → i < length l → s ≤ n → s ≡ total (take i l) → n - s < get_or l i 0 → false ≡ eqb (total l) n
sum_over l i s n h k e o = sym (ne_eqb (total l) n (λ z. omega (arith, sum_suc (λ x. x) l i 0 h, sum_take (λ x. x) l (suc i))))

pub sum_end : (l : List ℕ) (i s n : ℕ) → length l ≤ i → s ≡ total (take i l) → eqb s n ≡ eqb (total l) n
sum_end l i s n h e = ap (λ x. eqb x n) (e ∙ ap total (take_all i l h))
