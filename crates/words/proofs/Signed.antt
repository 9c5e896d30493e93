-- A 32-bit signed number and its word.
use Rattle.std.specs.Prelude.{Option, Some, None}
use Prim.Native.Nat.{ℕ, suc, ◌+◌, ◌-◌, ◌%◌, ◌<◌, ◌^◌}
use mathlib.Core.Path.{◌≡◌, refl, sym, ◌∙◌}
use mathlib.Core.Bool.{true}
use native.Mathlib.Omega.{arith}
use lib.Dec.{eqb, leb, ltb}
use lib.IntN.{ℤ, pos, negsuc}
use borrow.Author.Tests.{lt-ltb, le-ltb, ne_eqb, eq-eqb, eqb-true, eqb-false, leb-true, ltb-true, ltb-false}
use mir.Syntax.{w32}
use mir.Val.{SFits, to_z, of_z}
use Rattle.chain.proofs.Chain.{caseB}
use Rattle.words.specs.Words.{read_signed, read_option_i32, signed_word, option_i32_word, is_signed}
use Rattle.words.proofs.Options as options

high : (n : ℕ) → n < 2147483648 → read_signed (4294967295 - n) ≡ negsuc n
unfolding read_signed
high n h =
    let m : (4294967295 - n) % 4294967296 ≡ 4294967295 - n = omega arith in
    let e : 4294967295 - (4294967295 - n) ≡ n = omega arith in
    simp (m, le-ltb (4294967295 - n) 2147483648 (omega arith), e)

low : (n : ℕ) → n < 2147483648 → read_signed n ≡ pos n
unfolding read_signed
low n h = let m : n % 4294967296 ≡ n = omega arith in simp (m, lt-ltb n 2147483648 h)

-- the word of a signed number, both ways
abbrev pub Says : ℕ → ℤ → Type 0
Says w v = (read_signed w ≡ v) × (signed_word v ≡ w)

-- FFFFFFFFh is -1, FFFFFFFBh -5, and 80000000h the least number
pub twos_complement : Says 4294967295 (negsuc 0) × Says 4294967291 (negsuc 4) × Says 2147483648 (negsuc 2147483647)
unfolding read_signed signed_word
twos_complement = ((refl, refl), (refl, refl), (refl, refl))

-- the bits of a signed number are its word
pub signed_bits : (v : ℤ) (x : ℕ) → SFits w32 v → x ≡ of_z w32 v → (read_signed x ≡ v) × (x < 4294967296) × (x ≡ signed_word v)
unfolding signed_word
signed_bits (pos n) x f e = let h = f.sfits in rw e (low n h, omega arith, refl)
signed_bits (negsuc n) x f e =
    let h = f.sfits in
    let b : x ≡ 4294967295 - n = e ∙ omega arith in
    rw b (high n h, omega arith, refl)

-- and the number of a word's bits is the one that the word decodes to
pub read_bits : (w : ℕ) → to_z w32 (w % 4294967296) ≡ read_signed w
unfolding read_signed
read_bits w =
    let y : ℕ = w % 4294967296 in
    caseB (ltb y 2147483648)
    (λ e. rw e refl)
    (λ e. let n : 4294967296 - suc y ≡ 4294967295 - y = omega arith in rw (e, n) refl)

option_back : (y : ℕ) (v : ℤ) → y < 4294967296 → read_signed y ≡ v → read_option_i32 (y + 1) ≡ Some v
unfolding read_option_i32
option_back y v h e = let b : y + 1 - 1 ≡ y = omega arith in simp (ne_eqb (y + 1) 0 (omega arith), b, e)

option_none : (w : ℕ) → w ≡ 0 → None ≡ read_option_i32 w
unfolding read_option_i32
option_none w e = simp (eq-eqb w 0 e)

-- a number of 32 bits is what its word decodes to
signed_says : (v : ℤ) → is_signed (Some v) ≡ true → (read_signed (signed_word v) ≡ v) × (signed_word v < 2 ^ 32)
unfolding signed_word
signed_says (pos n) t = let h = ltb-true n (2 ^ 31) t in (low n h, omega arith)
signed_says (negsuc n) t = let h = ltb-true n (2 ^ 31) t in (high n h, omega arith)

pub option_i32_says : (o : Option ℤ) → is_signed o ≡ true → read_option_i32 (option_i32_word o) ≡ o
option_i32_says None t = sym (option_none 0 refl)
option_i32_says (Some v) t = let b = signed_says v t in option_back (signed_word v) v b.1 b.0

-- and a word of 32 bits encodes what it decodes to
signed_word_lem : (y : ℕ) → y < 2 ^ 32 → signed_word (read_signed y) ≡ y
unfolding read_signed signed_word
signed_word_lem y h = rw (options.low 32 h) (caseB (ltb y (2 ^ 31)) (λ e. rw e) (λ e. let g = ltb-false y (2 ^ 31) e in rw e (omega arith)))

pub option_i32_word_lem : (x : ℕ) → leb x (2 ^ 32) ≡ true → option_i32_word (read_option_i32 x) ≡ x
unfolding read_option_i32
option_i32_word_lem x t =
    let l = leb-true x (2 ^ 32) t in
    caseB (eqb x 0) (λ e. rw e (sym (eqb-true x 0 e)))
    (λ e. let n = eqb-false x 0 e in let s : x - 1 < 2 ^ 32 = omega arith in rw (e, signed_word_lem (x - 1) s) (omega arith))
