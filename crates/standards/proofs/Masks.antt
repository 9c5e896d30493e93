-- The fields of specs/Fields are what the Rust's masks pick. Assumes nothing.
use Prim.Native.Nat.{ℕ, zero, suc, ◌+◌, ◌-◌, ◌*◌, ◌/◌, ◌%◌, ◌^◌, ◌<◌}
use mathlib.Core.Bool.{not, ◌||◌}
use mathlib.Core.Path.{◌≡◌, refl, ap, ap₂, sym, ◌∙◌}
use native.Mathlib.Omega.{arith}
use native.Mathlib.Nat.{mod-lt, one-mul, zero-mul, zero-add, add-zero, add_comm, div-one}
use lib.Dec.{ltb, eqb}
use lib.Pow.{pow_pos, split, high_ones, shl-shr}
use lib.Bits.{bit_and, bit_or, and_block, and_high, and_mask, and_zero_r}
use borrow.Author.Tests.{eq-eqb, ne_eqb, eqb-true, eqb-false}
use Rattle.chain.proofs.Chain.{caseB}
use Rattle.standards.specs.Fields.{field, bit}
use Rattle.standards.specs.Setup.{request_kind, recipient_of, endpoint_number, endpoint_reserved}
use Rattle.standards.specs.Ports.{port_connected, port_enabled, port_resetting, port_speed, port_changes}

-- two tests agree that hold of the same numbers
same_test : (a b c d : ℕ) → (a ≡ b → c ≡ d) → (c ≡ d → a ≡ b) → eqb a b ≡ eqb c d
same_test a b c d f g =
    caseB (eqb a b) (λ e. e ∙ sym (eq-eqb c d (f (eqb-true a b e)))) (λ e. e ∙ sym (ne_eqb c d (λ q. eqb-false a b e (g q))))

-- a number below 2 that is not 0 is 1
one_test : (a : ℕ) → a < 2 → not (eqb a 0) ≡ eqb a 1
one_test zero h = refl
one_test (suc zero) h = refl
one_test (suc (suc a)) h = absurd (omega arith)

-- a sum is 0 where both numbers are
sum_test : (a b : ℕ) → not (eqb (a + b) 0) ≡ (not (eqb a 0) || not (eqb b 0))
sum_test zero b = rw (zero-add b)
sum_test (suc a) b = rw (ne_eqb (suc a + b) 0 (λ q. omega arith), ne_eqb (suc a) 0 (λ q. omega arith))

module _ (lo width x : ℕ) where
  -- a mask in place picks the field in place
  pub masked : bit_and x ((2 ^ width - 1) * 2 ^ lo) ≡ field lo width x * 2 ^ lo
  masked = rw (← high_ones width lo) (and_high x width lo)

  -- a shift and a mask
  pub shifted : bit_and (x / 2 ^ lo) (2 ^ width - 1) ≡ field lo width x
  shifted = and_mask (x / 2 ^ lo) width

  -- the field is compared in place
  pub masked_is : (n : ℕ) → eqb (bit_and x ((2 ^ width - 1) * 2 ^ lo)) (n * 2 ^ lo) ≡ eqb (field lo width x) n
  masked_is n =
      rw masked
      (same_test (field lo width x * 2 ^ lo) (n * 2 ^ lo) (field lo width x) n
      (λ e. sym (shl-shr _ lo) ∙ ap (λ (y : ℕ). y / 2 ^ lo) e ∙ shl-shr n lo)
      (ap (λ (y : ℕ). y * 2 ^ lo)))

-- the field at 0 needs no shift
pub low_mask : (width x : ℕ) → bit_and x (2 ^ width - 1) ≡ field 0 width x
low_mask width x = rw (and_mask x width, div-one x)

-- one bit
pub bit_is : (k x : ℕ) → not (eqb (bit_and x (2 ^ k)) 0) ≡ bit k x
bit_is k x = ap not (rw (one-mul (2 ^ k), zero-mul (2 ^ k)) at (masked_is k 1 x 0)) ∙ one_test (field k 1 x) (mod-lt (x / 2 ^ k) (omega arith))

-- a mask of two parts, the low one below 2 ^ k
module _ (k x : ℕ) where
  parts : (a s : ℕ) → s < 2 ^ k → bit_and x (a * 2 ^ k + s) ≡ bit_and (x / 2 ^ k) a * 2 ^ k + bit_and (x % 2 ^ k) s
  parts a s h =
      ap (λ (y : ℕ). bit_and y (a * 2 ^ k + s)) (sym (split x k))
      ∙ and_block k (x / 2 ^ k) a (x % 2 ^ k) s (mod-lt x (pow_pos k)) h

  upper : (a : ℕ) → bit_and x (a * 2 ^ k) ≡ bit_and (x / 2 ^ k) a * 2 ^ k
  upper a = ap (bit_and x) (sym (add-zero (a * 2 ^ k))) ∙ parts a 0 (pow_pos k) ∙ rw (and_zero_r (x % 2 ^ k)) (add-zero _)

  lower : (s : ℕ) → s < 2 ^ k → bit_and x s ≡ bit_and (x % 2 ^ k) s
  lower s h =
      ap (bit_and x) (sym (rw (zero-mul (2 ^ k)) (zero-add s)))
      ∙ parts 0 s h
      ∙ rw (and_zero_r (x / 2 ^ k), zero-mul (2 ^ k)) (zero-add _)

  pub in_parts : (a s : ℕ) → s < 2 ^ k → bit_and x (a * 2 ^ k + s) ≡ bit_and x s + bit_and x (a * 2 ^ k)
  in_parts a s h = parts a s h ∙ add_comm _ _ ∙ sym (ap₂ ◌+◌ (lower s h) (upper a))

-- The Rust's expressions: those of requests.rs, then those of ports.rs.

-- e & 0x70 != 0
pub reserved_mask : (e : ℕ) → not (eqb (bit_and e 0x70) 0) ≡ not (eqb (endpoint_reserved e) 0)
reserved_mask e = ap not (masked_is 4 3 e 0)

-- e & 15
pub number_mask : (e : ℕ) → bit_and e 15 ≡ endpoint_number e
number_mask e = low_mask 4 e

-- e & 15 == 0
pub number_zero : (e : ℕ) → eqb (bit_and e 15) 0 ≡ eqb (endpoint_number e) 0
number_zero e = rw (number_mask e)

-- k & 128 != 0, of a request type and of an endpoint address
pub inward_mask : (k : ℕ) → not (eqb (bit_and k 128) 0) ≡ bit 7 k
inward_mask k = bit_is 7 k

-- k & 31
pub recipient_mask : (k : ℕ) → bit_and k 31 ≡ recipient_of k
recipient_mask k = low_mask 5 k

-- k & 31 > 3
pub recipient_above : (k : ℕ) → ltb 3 (bit_and k 31) ≡ ltb 3 (recipient_of k)
recipient_above k = rw (recipient_mask k)

-- k & 96 == 96
pub kind_reserved : (k : ℕ) → eqb (bit_and k 96) 96 ≡ eqb (request_kind k) 3
kind_reserved k = masked_is 5 2 k 3

-- k & 96 == 0
pub kind_standard : (k : ℕ) → eqb (bit_and k 96) 0 ≡ eqb (request_kind k) 0
kind_standard k = masked_is 5 2 k 0

-- raw & 1 != 0
pub connected_mask : (raw : ℕ) → not (eqb (bit_and raw 1) 0) ≡ port_connected raw
connected_mask raw = bit_is 0 raw

-- raw & 2 != 0
pub enabled_mask : (raw : ℕ) → not (eqb (bit_and raw 2) 0) ≡ port_enabled raw
enabled_mask raw = bit_is 1 raw

-- raw & (1 << 4 | 1 << 31) != 0
pub resetting_mask : (raw : ℕ) → not (eqb (bit_and raw (bit_or (2 ^ 4) (2 ^ 31))) 0) ≡ port_resetting raw
resetting_mask raw =
    ap (λ (y : ℕ). not (eqb y 0)) (in_parts 31 raw 1 (2 ^ 4) (omega arith))
    ∙ sum_test (bit_and raw (2 ^ 4)) (bit_and raw (2 ^ 31))
    ∙ ap₂ ◌||◌ (bit_is 4 raw) (bit_is 31 raw)

-- (raw >> 10) & 15
pub speed_mask : (raw : ℕ) → bit_and (raw / 2 ^ 10) 15 ≡ port_speed raw
speed_mask raw = shifted 10 4 raw

-- raw & 0x00fe0000
pub changes_mask : (raw : ℕ) → bit_and raw 0x00fe_0000 ≡ port_changes raw
changes_mask raw = masked 17 7 raw
