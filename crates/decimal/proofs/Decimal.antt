-- Laws of a number as decimal text. Assumes nothing.
use Prim.Native.Nat.{ℕ, zero, suc, ◌+◌, ◌-◌, ◌*◌, ◌/◌, ◌%◌, ◌^◌, ◌<◌, ◌≤◌}
use mathlib.Core.Path.{◌≡◌, refl, sym, ap, ◌∙◌}
use mathlib.Core.List.{List, [], ◌∷◌, ◌++◌}
use mathlib.Core.Logic.{⊎_elim}
use native.Mathlib.Nat.{le_of_suc-le-suc, pow-le-pow_right}
use native.Mathlib.Omega.{arith}
use lib.Dec.{ltb}
use lib.ListN.{length, get_or, set, take, length-append}
use lib.Seq.{take-take}
use borrow.Author.Tests.{lt-ltb, le-ltb, ltb-true, ltb-false}
use Rattle.io.specs.Digits.{hex_digit_ascii, last_digits, IsDigitCount}
use Rattle.chain.specs.After.{after}
use Rattle.chain.proofs.Chain.{caseB}
use Rattle.words.specs.Records.{splice}
use Rattle.words.proofs.Records.{le_or_lt, splice-set}
use Rattle.decimal.specs.Text.{decimal_in, decimal, value_from, appended}
use Rattle.decimal.proofs.Appended.{appended_then}

-- what the digits of a list say, with one digit after them
value_more : (a : ℕ) (l : List ℕ) (c : ℕ) → value_from a (l ++ (c ∷ [])) ≡ value_from a l * 10 + (c - 48)
value_more a [] c = refl
value_more a (x ∷ l) c = value_more (a * 10 + (x - 48)) l c

-- a character of a number
abbrev pub Glyph : ℕ → Type 0
Glyph c = (48 ≤ c) × (c ≤ 57)

-- what holds of each element of a list, and of one after them
glyphs_more : (l : List ℕ) (c : ℕ) → ((i : ℕ) → i < length l → Glyph (get_or l i 0)) → Glyph c
    → (i : ℕ) → i < length (l ++ (c ∷ [])) → Glyph (get_or (l ++ (c ∷ [])) i 0)
glyphs_more [] c h g zero b = g
glyphs_more [] c h g (suc i) b = absurd (omega arith)
glyphs_more (x ∷ l) c h g zero b = h 0 (omega arith)
glyphs_more (x ∷ l) c h g (suc i) b = glyphs_more l c (λ j k. h (suc j) (omega arith)) g i (le_of_suc-le-suc b)

-- the first of a list is the first with more after it
first_more : (l m : List ℕ) → 48 < get_or l 0 0 → 48 < get_or (l ++ m) 0 0
first_more [] m h = absurd (omega arith)
first_more (x ∷ l) m h = h

-- a digit's glyph is its own character
glyph_digit : (n : ℕ) → hex_digit_ascii (n % 10) ≡ 48 + n % 10
glyph_digit n = rw (lt-ltb (n % 10) 10 (omega arith))

-- a number that takes two digits or more is no smaller than the first of so many
fewest_low : (k n : ℕ) → IsDigitCount 10 1 n (suc (suc k)) → 10 ^ suc k ≤ n
fewest_low k n f = let e : suc (suc k) - 1 ≡ suc k = omega arith in rw e at (f.2 (omega arith))

-- its tenth takes one digit less
fewest_tenth : (k n : ℕ) → IsDigitCount 10 1 n (suc (suc k)) → IsDigitCount 10 1 (n / 10) (suc k)
fewest_tenth k n f =
    let d : suc k - 1 ≡ k = omega arith in
    let h = fewest_low k n f in
    (omega arith, omega arith, λ z. rw d (omega arith))

-- a number below 10 ^ j has no more than j digits
fewest_most : (j k n : ℕ) → 0 < j → n < 10 ^ j → IsDigitCount 10 1 n k → k ≤ j
fewest_most j k n p h f =
    ⊎_elim (λ y. y)
    (λ y. let low : 10 ^ (k - 1) ≤ n = f.2 (omega arith) in
    let up : 10 ^ j ≤ 10 ^ (k - 1) = pow-le-pow_right (omega arith) (omega arith) in
    absurd (omega arith))
    (le_or_lt k j)

-- the fewest digits of a number below 10 ^ suc j are those of `decimal_in`
digits_in : (j k n : ℕ) → IsDigitCount 10 1 n k → n < 10 ^ suc j → last_digits 10 k n ≡ decimal_in (suc j) n
digits_in j zero n f h = absurd (omega arith)
digits_in j (suc zero) n f h =
    let g = glyph_digit n in
    let m : n % 10 ≡ n = omega arith in
    rw (g, m, lt-ltb n 10 (omega arith))
digits_in zero (suc (suc k)) n f h = absurd (omega (arith, fewest_low k n f))
digits_in (suc j) (suc (suc k)) n f h =
    let g = glyph_digit n in
    let more = fewest_low k n f in
    rw (g, le-ltb n 10 (omega arith), digits_in j (suc k) (n / 10) (fewest_tenth k n f) (omega arith))

-- what the text says is the number
value_in : (j n : ℕ) → n < 10 ^ j → value_from 0 (decimal_in j n) ≡ n
value_in zero n h = omega arith
value_in (suc j) n h =
    caseB (ltb n 10) (λ e. rw e (omega arith))
    (λ e. rw e (omega (arith, value_more 0 (decimal_in j (n / 10)) (48 + n % 10), value_in j (n / 10) (omega arith))))

-- each character is a digit
glyphs_in : (j n i : ℕ) → i < length (decimal_in j n) → Glyph (get_or (decimal_in j n) i 0)
glyphs_in zero n i = λ h. absurd (omega arith)
glyphs_in (suc j) n i =
    caseB (ltb n 10)
    (λ e. rw e (glyphs_more [] (48 + n) (λ k z. absurd (omega arith)) (omega (arith, ltb-true n 10 e)) i))
    (λ e. rw e (glyphs_more (decimal_in j (n / 10)) (48 + n % 10) (glyphs_in j (n / 10)) (omega arith) i))

-- no zero leads
first_in : (j n : ℕ) → n < 10 ^ j → 0 < n → 48 < get_or (decimal_in j n) 0 0
first_in zero n h p = absurd (omega arith)
first_in (suc j) n h p =
    caseB (ltb n 10) (λ e. rw e (omega arith))
    (λ e. rw e (first_more (decimal_in j (n / 10)) ((48 + n % 10) ∷ []) (first_in j (n / 10) (omega arith) (omega (arith, ltb-false n 10 e)))))

-- a number below 10 ^ suc k has at most suc k digits
length_in_lem : (j k n : ℕ) → n < 10 ^ suc k → length (decimal_in j n) ≤ suc k
length_in_lem zero k n h = omega arith
length_in_lem (suc j) zero n h = rw (lt-ltb n 10 (omega arith)) (omega arith)
length_in_lem (suc j) (suc k) n h =
    caseB (ltb n 10) (λ e. rw e (omega arith))
    (λ e. rw e (omega (arith, length-append (decimal_in j (n / 10)) ((48 + n % 10) ∷ []), length_in_lem j k (n / 10) (omega arith))))

-- a text has no more characters than `decimal_in` is given
length_most : (j n : ℕ) → length (decimal_in j n) ≤ j
length_most zero n = omega arith
length_most (suc j) n =
    caseB (ltb n 10) (λ e. rw e (omega arith))
    (λ e. rw e (omega (arith, length-append (decimal_in j (n / 10)) ((48 + n % 10) ∷ []), length_most j (n / 10))))

module _ (n : ℕ) where
  -- the digits that `io::decimal` writes are the number's text
  pub decimal_digits : (k : ℕ) → IsDigitCount 10 1 n k → n < 10 ^ 20 → last_digits 10 k n ≡ decimal n
  unfolding decimal
  decimal_digits k f h = digits_in 19 k n f h

  -- the text says the number
  pub decimal_value : n < 10 ^ 20 → value_from 0 (decimal n) ≡ n
  unfolding decimal
  decimal_value h = value_in 20 n h

  -- each character is 48 to 57
  pub decimal_glyphs : (i : ℕ) → i < length (decimal n) → Glyph (get_or (decimal n) i 0)
  unfolding decimal
  decimal_glyphs i h = glyphs_in 20 n i h

  -- a number that is not 0 starts with no 0
  pub decimal_first : n < 10 ^ 20 → 0 < n → 48 < get_or (decimal n) 0 0
  unfolding decimal
  decimal_first h p = first_in 20 n h p

  -- a number below 10 ^ k has at most k characters
  pub decimal-length : (k : ℕ) → 0 < k → n < 10 ^ k → length (decimal n) ≤ k
  unfolding decimal
  decimal-length zero p h = absurd (omega arith)
  decimal-length (suc k) p h = length_in_lem 20 k n h

  -- no number has more than 20
  pub decimal_most : length (decimal n) ≤ 20
  unfolding decimal
  decimal_most = length_most 20 n

-- zero is one character
pub decimal_zero : decimal 0 ≡ 48 ∷ []
unfolding decimal
decimal_zero = refl

-- no two numbers have the same text
pub decimal_told : (n m : ℕ) → n < 10 ^ 20 → m < 10 ^ 20 → decimal n ≡ decimal m → n ≡ m
decimal_told n m hn hm e = sym (decimal_value n hn) ∙ ap (value_from 0) e ∙ decimal_value m hm

-- a character that is stored at a place is appended there
pub byte_put : (at c : ℕ) (l : List ℕ) → at < length l → after (at + 1) (set l at c) ≡ appended (c ∷ []) at l
byte_put at c l h = rw (splice-set at c l h)

-- the digits of a number below 2 ^ 64 lie in the room of 20
pub number_fits : (n at k m : ℕ) → IsDigitCount 10 1 n k → n < 2 ^ 64 → at + 20 ≤ m → at + k ≤ m
number_fits n at k m few small h = omega (arith, fewest_most 20 k n (omega arith) (omega arith) few)

-- a number's digits that are copied to a place are appended there
pub number_put : (n at k : ℕ) (d l w : List ℕ) → w ≡ splice at (take k (take k d)) l → take k d ≡ last_digits 10 k n → k ≡ length (take k d)
    → IsDigitCount 10 1 n k → n < 2 ^ 64 → after (at + k) w ≡ appended (decimal n) at l
number_put n at k d l w e same count few small =
    let t : take k d ≡ decimal n = same ∙ decimal_digits n k few (omega arith) in
    let m : k ≡ length (decimal n) = count ∙ ap length t in
    rw (e, take-take k k d (omega arith), t, ← m)

-- a number and the character after it
pub field_put : (n c r s at : ℕ) (w v l : List ℕ) → at + 21 ≤ length l → after r w ≡ appended (decimal n) at l → after s v ≡ appended (c ∷ []) r w
    → after s v ≡ appended (decimal n ++ (c ∷ [])) at l
field_put n c r s at w v l fits e f =
    appended_then r at w (decimal n) l e (c ∷ []) s v (simp length-append (omega (arith, decimal_most n))) (λ k. f)
