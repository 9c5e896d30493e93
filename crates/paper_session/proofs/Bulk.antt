-- Which endpoints a slot has. Assumes nothing.
use Prim.Native.Nat.{ℕ, zero, suc, ◌+◌, ◌<◌, ◌≤◌}
use mathlib.Core.Bool.{Bool, true, false, ◌&&◌, ◌||◌}
use mathlib.Core.Logic.{⊎_elim}
use mathlib.Core.Path.{◌≡◌, refl, ap, ◌∙◌}
use native.Mathlib.Omega.{arith}
use lib.Dec.{eqb, leb, ltb, leb-suc-suc}
use borrow.Author.Tests.{eq-eqb, ne_eqb, le-leb, lt-leb, lt-ltb, le-ltb}
use Rattle.chain.specs.Lists.{any_in, is_among}
use Rattle.chain.proofs.Chain.{and_false}
use Rattle.chain.proofs.Lists.{in_cons}
use Rattle.words.specs.Records.{tab}
use Rattle.words.proofs.Records.{le_or_lt}
use Rattle.models.specs.declared.TransferType.TheVariants.{Bulk}
use Rattle.bus.specs.Endpoints.{has_endpoint}
use Rattle.bus.specs.Layout.{endpoint_word}
use Rattle.session.specs.Lent.{Lent, lent_fits}
use Rattle.paper_session.specs.Start.{paper_size, bulk_endpoints, start_on}
use Rattle.paper_session.proofs.Started.{start_placed}

-- one more at the front of a run of numbers
front : (t : Bool) (a c n : ℕ) → (a ≡ c → t ≡ true) → ((a ≡ c → ⊥) → t ≡ false) → (t || (leb (suc c) a && ltb a (suc c + n))) ≡ (leb c a && ltb a (c + suc n))
front t a c n same other =
    ⊎_elim
    (λ (h : a ≤ c). ⊎_elim
    (λ (g : c ≤ a). let e : a ≡ c = omega arith in rw (same e, le-leb c a g, lt-ltb a (c + suc n) (omega arith)))
    (λ (g : a < c). rw (other (λ e. omega arith), lt-leb (suc c) a (omega arith), lt-leb c a g))
    (le_or_lt c a))
    (λ (h : c < a). let e : suc c + n ≡ c + suc n = omega arith in rw (other (λ e. omega arith), le-leb (suc c) a h, le-leb c a (omega arith), e))
    (le_or_lt a c)

-- of n numbers one after the other, each e above c and on: a number is among them where it is e above one from c to c + n
pub among_run : (a c e : ℕ) (f : ℕ → ℕ) (n : ℕ) → ((k : ℕ) → f k ≡ c + k + e) → is_among (a + e) (tab f n) ≡ (leb c a && ltb a (c + n))
among_run a c e f zero h =
    ⊎_elim
    (λ (g : c ≤ a). rw (le-ltb a (c + 0) (omega arith), and_false (leb c a)))
    (λ (g : a < c). rw (lt-leb c a g))
    (le_or_lt c a)
among_run a c e f (suc n) h =
    let z = h 0 in
    in_cons (a + e) (f 0) (tab (λ (k : ℕ). f (suc k)) n)
    ∙ ap (λ (r : Bool). eqb (a + e) (f 0) || r) (among_run a (suc c) e (λ (k : ℕ). f (suc k)) n (λ k. omega (arith, h (suc k))))
    ∙ front (eqb (a + e) (f 0)) a c n (λ q. eq-eqb (a + e) (f 0) (omega arith)) (λ q. ne_eqb (a + e) (f 0) (λ p. q (omega arith)))

-- 81h to 8Fh and no other
pub bulk_among : (a : ℕ) → any_in (eqb (endpoint_word a Bulk)) bulk_endpoints ≡ (leb 129 a && leb a 143)
bulk_among a =
    among_run a 129 256 (λ (k : ℕ). endpoint_word (129 + k) Bulk) 15 (λ k. refl) ∙ ap (λ (r : Bool). leb 129 a && r) (leb-suc-suc a 143)

-- so every slot of the start has bulk endpoints 81h to 8Fh, and at no other address
pub start_bulk : (l : Lent) (slot a : ℕ) → lent_fits paper_size l ≡ true → slot < 256
    → has_endpoint slot a Bulk (start_on l).lent.bus ≡ (leb 129 a && leb a 143)
start_bulk l slot a fits h = ap (any_in (eqb (endpoint_word a Bulk))) ((start_placed l fits).endpoints slot h) ∙ bulk_among a
