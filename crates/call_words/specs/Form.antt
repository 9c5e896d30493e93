-- Which lists of words are calls: the number is known, the words are as many as the call has, each is in its field's range, so that no
-- bits are lost, and a word that the call does not read is 0. Word 0 is the call's number. Assumes nothing.
use Rattle.std.specs.Prelude.{ℕ, zero, suc, ◌+◌, ◌*◌, Bool, true, false, not, ◌&&◌, List, get_or, length, drop, eqb, leb, ltb}
use Rattle.chain.specs.Chain.{◌if◌else◌}
use Rattle.chain.specs.Lists.{any_in}
use Rattle.words.specs.Records.{part}
use Rattle.scope.specs.Returned.{completion_words}
use Rattle.call_words.specs.Parts.{at_most, is_zero, is_flag, is_byte, is_option, are_zero, by_flag, is_bus_id, is_option_number, is_error, is_option_error, is_setup, is_option_setup, is_reading, is_completion, is_stage}

abbrev pub has : List ℕ → ℕ → Bool
has w n = eqb (length w) n

-- session, first sequence, revision (optional), ports (flag, count), rows, bytes a row
unfoldable pub is_open_call : List ℕ → Bool
is_open_call w = has w 9 && is_option_number w 3 && by_flag (get_or w 5 0) (is_zero w 6) (is_byte w 6)

-- device id, port id, state
unfoldable pub is_set_device : List ℕ → Bool
is_set_device w = has w 8 && is_bus_id w 1 && is_bus_id w 4 && at_most w 7 6

-- number, generation, reading
unfoldable pub is_set_port : List ℕ → Bool
is_set_port w = has w 4 && is_byte w 1 && is_option w 3

-- slot, then the list: an address is below 256, and a transfer type, which stands above it, below 4
unfoldable pub is_set_endpoints : List ℕ → Bool
is_set_endpoints w = leb 2 (length w) && is_byte w 1 && not (any_in (ltb 1023) w)

-- slot, mark
unfoldable pub is_set_reconcile : List ℕ → Bool
is_set_reconcile w = has w 3 && is_byte w 1 && is_flag w 2

-- failed, retained, error; not failed: zeros
unfoldable pub is_acquire : List ℕ → Bool
is_acquire w = has w 7 && by_flag (get_or w 1 0) (are_zero w 2 5) (is_flag w 2 && is_error w 3)

unfoldable pub is_initialize : List ℕ → Bool
is_initialize w = has w 6 && is_option_error w 1

-- fresh number (optional), error (optional)
unfoldable pub is_close : List ℕ → Bool
is_close w = has w 8 && is_option_number w 1 && is_option_error w 3

-- device, endpoint, type, direction, length, SETUP (optional), two readings, packets given, then the packets
unfoldable pub is_submit : List ℕ → Bool
is_submit w =
    (is_bus_id w 1 && is_byte w 4 && at_most w 5 3 && is_flag w 6 && is_option_setup w 8)
    && (is_reading w 14 && is_reading w 20)
    && by_flag (get_or w 26 0) (has w 27) (leb 27 (length w))

-- device, profile, SETUP, stage (flag, direction, length), status, reading
unfoldable pub is_plan : List ℕ → Bool
is_plan w = (has w 20 && is_bus_id w 1 && is_flag w 4 && is_setup w 5) && (is_stage w 10 && at_most w 13 2 && is_reading w 14)

-- 0, a token and zeros; or 1, 0 and an error
unfoldable pub is_submit_reply : List ℕ → Bool
is_submit_reply w = has w 7 && by_flag (get_or w 1 0) (are_zero w 3 4) (is_zero w 2 && is_error w 3)

-- 0 and zeros; 1, 0, an error and zeros; 2 and a completion
unfoldable pub is_poll_reply : List ℕ → Bool
is_poll_reply w =
    (has w 12 && are_zero w 2 10) if eqb (get_or w 1 0) 0 else
    (has w 12 && is_zero w 2 && is_error w 3 && are_zero w 7 5) if eqb (get_or w 1 0) 1 else
    (has w 12 && eqb (get_or w 1 0) 2 && is_completion (drop 2 w))

-- a flag, and the id
unfoldable pub is_reports : List ℕ → Bool
is_reports w = has w 5 && by_flag (get_or w 1 0) (are_zero w 2 3) true

-- an id, and whether the data toggle is preserved
unfoldable pub is_reset : List ℕ → Bool
is_reset w = has w 5 && is_flag w 4

-- the first n completions from `at` on
abbrev pub are_completions : List ℕ → ℕ → ℕ → Bool
are_completions w at zero = true
are_completions w at (suc n) = are_completions w at n && is_completion (part (at + n * completion_words) completion_words w)

-- 0, ready, error (optional), or 1, two zeros and the backend's error
abbrev pub is_recovered : List ℕ → Bool
is_recovered w = by_flag (get_or w 1 0) (is_flag w 2 && is_option_error w 3) (are_zero w 2 2 && is_error w 4)

-- and n, m, then n tokens, m completions, and tokens to the end
unfoldable pub is_recovery_reply : List ℕ → Bool
is_recovery_reply w =
    leb (10 + get_or w 8 0 + get_or w 9 0 * completion_words) (length w)
    && is_recovered w
    && are_completions w (10 + get_or w 8 0) (get_or w 9 0)

-- ---- by number

unfoldable pub is_placing : ℕ → List ℕ → Bool
is_placing n w =
    is_open_call w if eqb n 0 else
    is_set_device w if eqb n 1 else
    is_set_port w if eqb n 2 else
    is_set_endpoints w if eqb n 3 else
    is_set_reconcile w

unfoldable pub is_moving : ℕ → List ℕ → Bool
is_moving n w =
    is_acquire w if eqb n 5 else
    is_initialize w if eqb n 6 else
    is_close w

unfoldable pub is_submission : ℕ → List ℕ → Bool
is_submission n w =
    is_submit w if eqb n 8 else
    is_plan w

-- a poll takes an id
unfoldable pub is_replying : ℕ → List ℕ → Bool
is_replying n w =
    is_submit_reply w if eqb n 10 else
    has w 4 if eqb n 11 else
    is_poll_reply w

-- status and completed bytes take an id; counts take nothing
unfoldable pub is_reporting : ℕ → List ℕ → Bool
is_reporting n w =
    has w 4 if eqb n 16 else
    is_reports w if eqb n 17 else
    has w 1 if eqb n 18 else
    has w 4 if eqb n 19 else
    has w 1

-- an abort takes an id
unfoldable pub is_recovery_call : ℕ → List ℕ → Bool
is_recovery_call n w =
    has w 4 if eqb n 22 else
    is_reset w if eqb n 23 else
    is_recovery_reply w

-- 13 to 15 and 29, the changes of a request, take an id; 25 to 28 are questions
unfoldable pub is_call : List ℕ → Bool
is_call w =
    is_placing (get_or w 0 0) w if leb (get_or w 0 0) 4 else
    is_moving (get_or w 0 0) w if leb (get_or w 0 0) 7 else
    is_submission (get_or w 0 0) w if leb (get_or w 0 0) 9 else
    is_replying (get_or w 0 0) w if leb (get_or w 0 0) 12 else
    has w 4 if leb (get_or w 0 0) 15 else
    is_reporting (get_or w 0 0) w if leb (get_or w 0 0) 21 else
    is_recovery_call (get_or w 0 0) w if leb (get_or w 0 0) 24 else
    has w 4 if eqb (get_or w 0 0) 29 else
    false
