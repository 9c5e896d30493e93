-- An answer of any enum as its number in document 01's table and its values as words. Assumes nothing.
use Rattle.std.specs.Prelude.{ℕ, Bool, true, false, not, ◌&&◌, ◌||◌, List, [], ◌≡◌, eqb, get_or, Result, Ok, Err, ⊤}
use Rattle.chain.specs.Chain.{◌if◌else◌}
use Rattle.chain.specs.Lists.{is_among}
use Rattle.models.specs.Codes.{category_word}
use Rattle.models.specs.Refusals.{table_category}
use Rattle.models.specs.Values.{error_words}
use Rattle.models.specs.declared.{Refusal.Refusal}

-- the number is 0 where the call is not refused
pub record Said : Type 0 where
  pub is_refused : Bool
  pub number : ℕ
  pub values : List ℕ

abbrev pub says : List ℕ → Said
says values = record { is_refused = false; number = 0; values = values }

-- the values are the error's: category, message, system number, completion code
abbrev pub refused : Refusal → Said
refused r = record { is_refused = true; number = r.number; values = error_words r.error }

-- of an answer whose values f gives
abbrev pub said_by : {A : Type 0} → (A → List ℕ) → Result A Refusal → Said
said_by f (Err r) = refused r
said_by f (Ok x) = says (f x)

abbrev pub verdict_said : Result ⊤ Refusal → Said
verdict_said = said_by (λ x. [])

-- the table's error of number n: its category, the number as message, no system number and no code, but 48's is the completion's.
-- 33 and 45 have the backend's error, whatever it is
abbrev pub is_table_error : ℕ → List ℕ → Bool
is_table_error n values =
    true if eqb n 33 || eqb n 45 else
    eqb (get_or values 0 0) (category_word (table_category n)) && eqb (get_or values 1 0) n && eqb (get_or values 2 0) 0 && (eqb n 48 || eqb (get_or values 3 0) 0)

abbrev pub is_tabled : List ℕ → Said → Bool
is_tabled ns x = not x.is_refused || is_among x.number ns && is_table_error x.number x.values

-- not refused, or by one of the numbers ns and with the table's error
unfoldable pub Tabled : List ℕ → Said → Type 0
Tabled ns x = is_tabled ns x ≡ true
