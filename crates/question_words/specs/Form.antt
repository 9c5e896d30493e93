-- Which lists of words are questions, and which are taken where nothing may change. Assumes nothing.
use Rattle.std.specs.Prelude.{ℕ, Bool, false, ◌&&◌, List, get_or, eqb, leb, ltb}
use Rattle.chain.specs.Chain.{◌if◌else◌}
use Rattle.call_words.specs.Form.{has, is_submit, is_plan, is_reporting}

-- those for a reading have the words of the submission
unfoldable pub is_question : ℕ → List ℕ → Bool
is_question n w =
    has w 1 if eqb n 25 else
    has w 2 if eqb n 26 else
    is_submit w if eqb n 27 else
    is_plan w if eqb n 28 else
    false

-- the report calls, 16 to 21, and the questions
unfoldable pub is_read : List ℕ → Bool
is_read w = is_reporting (get_or w 0 0) w if ltb 15 (get_or w 0 0) && leb (get_or w 0 0) 21 else is_question (get_or w 0 0) w
