-- Laws of fields by their widths: packed and taken apart again they are the same. Assumes nothing.
use Prim.Native.Nat.{ℕ, zero, suc, ◌+◌, ◌*◌, ◌/◌, ◌%◌, ◌^◌, ◌<◌, ◌≤◌}
use mathlib.Core.Bool.{true, false, false≢true}
use mathlib.Core.List.{List, [], ◌∷◌}
use mathlib.Core.Path.{◌≡◌, refl, sym, ◌∙◌}
use native.Mathlib.Omega.{arith}
use native.Mathlib.Nat.{mod-lt, mod-eq_of_lt, mul-le-mul_right, suc-mul, zero-mul, zero-add, mod-one}
use lib.Dec.{ltb}
use lib.ListN.{length, get_or, take, replicate}
use lib.Pow.{pow_pos, pow-add, mod-pow-add, high, low}
use borrow.Author.Tests.{lt-ltb, le-ltb, ltb-true}
use Rattle.chain.proofs.Chain.{both, and_false}
use Rattle.standards.specs.Fields.{field}
use Rattle.paper.specs.Widths.{bits_of, fields_of, packed, are_fields}

-- each field of a number is within its width
pub fields_fit : (ws : List ℕ) (n : ℕ) → are_fields ws (fields_of ws n) ≡ true
fields_fit [] n = refl
fields_fit (w ∷ ws) n = rw (lt-ltb (field (bits_of ws) w n) (2 ^ w) (mod-lt (n / 2 ^ bits_of ws) (pow_pos w)), fields_fit ws n)

-- fields within their widths make a number of so many bits
pub packed_fits : (ws xs : List ℕ) → are_fields ws xs ≡ true → packed ws xs < 2 ^ bits_of ws
packed_fits [] [] h = omega arith
packed_fits [] (x ∷ xs) h = absurd (false≢true h)
packed_fits (w ∷ ws) [] h = absurd (false≢true h)
packed_fits (w ∷ ws) (x ∷ xs) h =
    let p = both (ltb x (2 ^ w)) (are_fields ws xs) h in
    omega (
      arith,
      pow-add 2 w (bits_of ws),
      suc-mul x (2 ^ bits_of ws),
      mul-le-mul_right (2 ^ bits_of ws) (ltb-true x (2 ^ w) p.0),
      packed_fits ws xs p.1,
    )

-- the fields of a number are its bits up to their widths
pub packed_low : (ws : List ℕ) (n : ℕ) → packed ws (fields_of ws n) ≡ n % 2 ^ bits_of ws
packed_low [] n = sym (mod-one n)
packed_low (w ∷ ws) n = rw (packed_low ws n) (sym (mod-pow-add n w (bits_of ws)))

pub packed_fields : (ws : List ℕ) (n : ℕ) → n < 2 ^ bits_of ws → packed ws (fields_of ws n) ≡ n
packed_fields ws n h = packed_low ws n ∙ mod-eq_of_lt h

-- what stands above the fields does not count
above : (ws xs : List ℕ) (a : ℕ) → are_fields ws xs ≡ true → fields_of ws (a * 2 ^ bits_of ws + packed ws xs) ≡ xs
above [] [] a h = refl
above [] (x ∷ xs) a h = absurd (false≢true h)
above (w ∷ ws) [] a h = absurd (false≢true h)
above (w ∷ ws) (x ∷ xs) a h =
    let p = both (ltb x (2 ^ w)) (are_fields ws xs) h in
    let k = bits_of ws in
    let e : a * 2 ^ (w + k) + (x * 2 ^ k + packed ws xs) ≡ (a * 2 ^ w + x) * 2 ^ k + packed ws xs = rw pow-add (omega arith) in
    rw (e, high (a * 2 ^ w + x) k (packed_fits ws xs p.1), low a w (ltb-true x (2 ^ w) p.0), above ws xs (a * 2 ^ w + x) p.1)

pub fields_packed : (ws xs : List ℕ) → are_fields ws xs ≡ true → fields_of ws (packed ws xs) ≡ xs
fields_packed ws xs h = rw (zero-mul, zero-add) at (above ws xs 0 h)

-- one more field
field_in : (w x : ℕ) (ws xs : List ℕ) → x < 2 ^ w → are_fields ws xs ≡ true → are_fields (w ∷ ws) (x ∷ xs) ≡ true
field_in w x ws xs h t = rw (lt-ltb x (2 ^ w) h, t)

-- one field that is over its width is enough
pub field_over : (ws xs : List ℕ) (i : ℕ) → i < length ws → 2 ^ get_or ws i 0 ≤ get_or xs i 0 → are_fields ws xs ≡ false
field_over [] xs i l h = absurd (omega arith)
field_over (w ∷ ws) [] i l h = refl
field_over (w ∷ ws) (x ∷ xs) zero l h = rw (le-ltb x (2 ^ w) h)
field_over (w ∷ ws) (x ∷ xs) (suc i) l h = rw (field_over ws xs i (omega arith) h) (and_false (ltb x (2 ^ w)))

-- Fields of one width w.

module _ (w : ℕ) where
  -- a list of n numbers below 2 ^ w
  pub same_fields : (n : ℕ) (xs : List ℕ) → n ≡ length xs → ((i : ℕ) → i < n → get_or xs i 0 < 2 ^ w) → are_fields (replicate n w) xs ≡ true
  same_fields zero [] l h = refl
  same_fields zero (x ∷ xs) l h = absurd (omega arith)
  same_fields (suc n) [] l h = absurd (omega arith)
  same_fields (suc n) (x ∷ xs) l h =
      field_in w x (replicate n w) xs (h zero (omega arith)) (same_fields n xs (omega arith) (λ i b. h (suc i) (omega arith)))

  -- the number of the first i + 1 of them from that of the first i
  pub packed_next : (xs : List ℕ) (i : ℕ) → i < length xs
      → packed (replicate (suc i) w) (take (suc i) xs) ≡ packed (replicate i w) (take i xs) * 2 ^ w + get_or xs i 0
  packed_next [] i h = absurd (omega arith)
  packed_next (x ∷ xs) zero h = omega arith
  packed_next (x ∷ xs) (suc i) h =
      rw (packed_next xs i (omega arith), pow-add 2 w (bits_of (replicate i w))) (omega arith)
