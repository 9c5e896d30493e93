-- What a reply brings of each request that the backend completed, in words (the Rust's `BackendAbort::completed`). Assumes nothing.
use Rattle.std.specs.Prelude.{ℕ, ◌*◌, Bool, ◌&&◌, List, eqb, length, get_or}
use Rattle.chain.specs.Lists.{sum_by}
use Rattle.words.specs.Records.{tab, part}
use Rattle.words.specs.Words.{read_flag, read_option_u32, read_option_u64}
use Rattle.models.specs.Values.{read_option_error}
use Rattle.models.specs.declared.{BackendCompletion.BackendCompletion}
use Rattle.scope.specs.declared.{returned.Brought.Brought}

-- a completion's words: error (a flag, then category, message, system number, code), length (a flag and the number), code, whether it
-- brings data, whether it is quiescent, and how many bytes of the data area are its own
abbrev pub completion_words : ℕ
completion_words = 11

-- what the first ten words say
abbrev pub read_completion : List ℕ → BackendCompletion
read_completion w = record {
  actual_length = read_option_u64 (get_or w 5 0) (get_or w 6 0);
  completion_code = read_option_u32 (get_or w 7 0);
  has_data = read_flag (get_or w 8 0);
  error = read_option_error w 0;
  quiescent = read_flag (get_or w 9 0);
}

unfoldable pub read_brought : List ℕ → Brought
read_brought w = record { completion = read_completion w; given = get_or w 10 0 }

unfoldable pub brought_at : List ℕ → ℕ → Brought
brought_at w k = read_brought (part (k * completion_words) completion_words w)

-- an entry: a token and what came for it
pub record Returned : Type 0 where
  pub token : ℕ
  pub brought : Brought

abbrev pub returned_at : List ℕ → List ℕ → ℕ → Returned
returned_at tokens w k = record { token = get_or tokens k 0; brought = brought_at w k }

unfoldable pub read_returned : List ℕ → List ℕ → List Returned
read_returned tokens w = tab (returned_at tokens w) (length tokens)

abbrev pub given_of : Brought → ℕ
given_of b = b.given

-- 49: a completion for each of n tokens, and their data lengths sum to the data area
unfoldable pub lists_agree : ℕ → List ℕ → ℕ → Bool
lists_agree n w size = eqb (length w) (n * completion_words) && eqb (sum_by given_of (tab (brought_at w) n)) size
