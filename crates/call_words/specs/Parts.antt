-- The parts of calls' words: which words each takes (`is..`), what they say (`read..`), and the words that say it (`..Words`), from
-- word `at` on. A word that is missing says 0, and one that a part does not read is 0. Assumes nothing.
use Rattle.std.specs.Prelude.{ℕ, zero, suc, ◌+◌, ◌-◌, ◌%◌, ◌^◌, Bool, true, ◌&&◌, cond, List, [], ◌∷◌, ◌++◌, get_or, replicate, eqb, leb, Option, Some, None, Result, Ok, Err}
use Rattle.words.specs.Words.{flag_word, option_u32_word, option_u64_words}
use Rattle.models.specs.Codes.{read_direction, direction_word}
use Rattle.models.specs.Values.{setup_words, setup_tail, error_words, option_error_words, read_error}
use Rattle.models.specs.declared.{BackendCompletion.BackendCompletion, DataStage.DataStage, Direction.Direction, OperationError.OperationError, PortId.PortId, SetupPacket.SetupPacket}
use Rattle.rows.specs.Codec.{read_setup_words}

-- ---- one word

abbrev pub at_most : List ℕ → ℕ → ℕ → Bool
at_most w i limit = leb (get_or w i 0) limit

abbrev pub is_zero : List ℕ → ℕ → Bool
is_zero w i = eqb (get_or w i 0) 0

abbrev pub is_flag : List ℕ → ℕ → Bool
is_flag w i = at_most w i 1

abbrev pub is_byte : List ℕ → ℕ → Bool
is_byte w i = at_most w i (2 ^ 8 - 1)

abbrev pub is_half : List ℕ → ℕ → Bool
is_half w i = at_most w i (2 ^ 16 - 1)

-- an optional 32-bit number: 0, or one more than it
abbrev pub is_option : List ℕ → ℕ → Bool
is_option w i = at_most w i (2 ^ 32)

-- ---- words that are not read

-- n words from `at` on are 0
abbrev pub are_zero : List ℕ → ℕ → ℕ → Bool
are_zero w at zero = true
are_zero w at (suc n) = are_zero w at n && is_zero w (at + n)

abbrev pub zeros : ℕ → List ℕ
zeros n = replicate n 0

-- by a flag: the one test where it is 0, the other where it is 1
abbrev pub by_flag : ℕ → Bool → Bool → Bool
by_flag flag unset set = cond (eqb flag 0) unset (eqb flag 1 && set)

-- ---- ids: two words of 64 bits, and a third; a device's and a port's is a byte

abbrev pub is_bus_id : List ℕ → ℕ → Bool
is_bus_id w at = is_byte w (at + 2)

abbrev pub read_port_id : List ℕ → ℕ → PortId
read_port_id w at = record { session = get_or w at 0; generation = get_or w (at + 1) 0; number = get_or w (at + 2) 0 % 2 ^ 8 }

-- ---- an optional 64-bit number, two words: a flag, the number

abbrev pub is_option_number : List ℕ → ℕ → Bool
is_option_number w at = by_flag (get_or w at 0) (is_zero w (at + 1)) true

abbrev pub option_number_words : Option ℕ → List ℕ
option_number_words o = (option_u64_words o).present ∷ (option_u64_words o).value ∷ []

-- ---- an error, four: category, message, system number, completion code

abbrev pub is_error : List ℕ → ℕ → Bool
is_error w at = at_most w at 6 && is_half w (at + 1) && is_option w (at + 2) && is_option w (at + 3)

-- an optional one, five: a flag, the error
abbrev pub is_option_error : List ℕ → ℕ → Bool
is_option_error w at = by_flag (get_or w at 0) (are_zero w (at + 1) 4) (is_error w (at + 1))

-- ---- a SETUP packet, five: type, request, value, index, length

abbrev pub is_setup : List ℕ → ℕ → Bool
is_setup w at = is_byte w at && is_byte w (at + 1) && is_half w (at + 2) && is_half w (at + 3) && is_half w (at + 4)

abbrev pub read_setup : List ℕ → ℕ → SetupPacket
read_setup w at = record {
  request_type = get_or w at 0 % 2 ^ 8;
  request = get_or w (at + 1) 0 % 2 ^ 8;
  value = get_or w (at + 2) 0 % 2 ^ 16;
  index = get_or w (at + 3) 0 % 2 ^ 16;
  length = get_or w (at + 4) 0 % 2 ^ 16;
}

abbrev pub packet_words : SetupPacket → List ℕ
packet_words p = p.request_type ∷ p.request ∷ p.value ∷ p.index ∷ p.length ∷ []

-- an optional one, six: a flag, the packet
abbrev pub is_option_setup : List ℕ → ℕ → Bool
is_option_setup w at = by_flag (get_or w at 0) (are_zero w (at + 1) 5) (is_setup w (at + 1))

abbrev pub read_option_setup : List ℕ → ℕ → Option SetupPacket
read_option_setup w at = read_setup_words (get_or w at 0) (get_or w (at + 1) 0) (get_or w (at + 2) 0) (get_or w (at + 3) 0) (get_or w (at + 4) 0) (get_or w (at + 5) 0)

abbrev pub option_setup_words : Option SetupPacket → List ℕ
option_setup_words o = setup_tail (setup_words o) []

-- ---- a port reading, six: 0 and the port's word, or 1, and from the third on the error

abbrev pub is_reading : List ℕ → ℕ → Bool
is_reading w at =
    by_flag (get_or w at 0) (at_most w (at + 1) (2 ^ 32 - 1) && are_zero w (at + 2) 4) (is_zero w (at + 1) && is_error w (at + 2))

abbrev pub read_reading : List ℕ → ℕ → Result ℕ OperationError
read_reading w at = cond (eqb (get_or w at 0) 0) (Ok (get_or w (at + 1) 0 % 2 ^ 32)) (Err (read_error w (at + 2)))

abbrev pub reading_words : Result ℕ OperationError → List ℕ
reading_words (Ok v) = 0 ∷ v ∷ zeros 4
reading_words (Err e) = 1 ∷ 0 ∷ error_words e

-- ---- a completion, ten: error (optional), length (optional), code, whether it brings data, quiescent

abbrev pub is_completion : List ℕ → Bool
is_completion w = is_option_error w 0 && is_option_number w 5 && is_option w 7 && is_flag w 8 && is_flag w 9

abbrev pub backend_completion_words : BackendCompletion → List ℕ
backend_completion_words x =
    option_error_words x.error ++ option_number_words x.actual_length
    ++ option_u32_word x.completion_code ∷ flag_word x.has_data ∷ flag_word x.quiescent ∷ []

-- ---- a plan's parts

-- three: a flag, direction, length
abbrev pub is_stage : List ℕ → ℕ → Bool
is_stage w at = by_flag (get_or w at 0) (are_zero w (at + 1) 2) (is_flag w (at + 1))

abbrev pub read_stage : List ℕ → ℕ → Option DataStage
read_stage w at =
    cond (eqb (get_or w at 0) 0) None (Some (record { direction = read_direction (get_or w (at + 1) 0); length = get_or w (at + 2) 0 }))

abbrev pub stage_words : Option DataStage → List ℕ
stage_words None = zeros 3
stage_words (Some x) = 1 ∷ direction_word x.direction ∷ x.length ∷ []

-- 0 none, 1 IN, 2 OUT
abbrev pub read_status : ℕ → Option Direction
read_status w = cond (eqb w 0) None (Some (read_direction (w - 1)))

abbrev pub status_word : Option Direction → ℕ
status_word None = 0
status_word (Some d) = 1 + direction_word d
