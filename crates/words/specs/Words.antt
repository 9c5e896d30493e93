-- Encoding of small values in a word. Decoding is total. Assumes nothing.
use Rattle.std.specs.Prelude.{ℕ, ◌+◌, ◌-◌, ◌%◌, ◌^◌, Bool, true, not, cond, eqb, ltb, ℤ, pos, negsuc, Option, Some, None}
use Rattle.words.specs.declared.{OptionWords.OptionWords}

-- a flag: 0 is false
abbrev pub read_flag : ℕ → Bool
read_flag w = not (eqb w 0)

abbrev pub flag_word : Bool → ℕ
flag_word b = cond b 1 0

-- what may be missing: 0, or one more than the value
abbrev pub read_option_u32 : ℕ → Option ℕ
read_option_u32 w = cond (eqb w 0) None (Some ((w - 1) % 2 ^ 32))

abbrev pub option_u32_word : Option ℕ → ℕ
option_u32_word None = 0
option_u32_word (Some v) = v + 1

-- a `u64` that may be missing: a flag and the value
abbrev pub read_option_u64 : ℕ → ℕ → Option ℕ
read_option_u64 p v = cond (eqb p 0) None (Some v)

abbrev pub option_u64_words : Option ℕ → OptionWords
option_u64_words None = record { present = 0; value = 0 }
option_u64_words (Some v) = record { present = 1; value = v }

-- a signed number: two's complement in the low 32 bits
abbrev pub low_signed : ℕ → ℤ
low_signed y = cond (ltb y (2 ^ 31)) (pos y) (negsuc (2 ^ 32 - 1 - y))

unfoldable pub read_signed : ℕ → ℤ
read_signed w = low_signed (w % 2 ^ 32)

unfoldable pub signed_word : ℤ → ℕ
signed_word (pos n) = n
signed_word (negsuc n) = 2 ^ 32 - 1 - n

unfoldable pub read_option_i32 : ℕ → Option ℤ
read_option_i32 w = cond (eqb w 0) None (Some (read_signed (w - 1)))

abbrev pub option_i32_word : Option ℤ → ℕ
option_i32_word None = 0
option_i32_word (Some v) = signed_word v + 1

-- whether it has 32 bits with its sign
abbrev pub is_signed : Option ℤ → Bool
is_signed None = true
is_signed (Some (pos n)) = ltb n (2 ^ 31)
is_signed (Some (negsuc n)) = ltb n (2 ^ 31)
