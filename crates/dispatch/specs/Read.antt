-- A report or a question on lent words that stay as they are. Assumes nothing.
use Rattle.std.specs.Prelude.{ℕ, not, List, length, get_or, leb, ltb}
use Rattle.chain.specs.After.{After, after}
use Rattle.chain.specs.Chain.{◌if◌else◌}
use Rattle.session.specs.Lent.{Lent}
use Rattle.calls.specs.Step.{World, world, step_of}
use Rattle.session_words.specs.State.{Kept, is_session}
use Rattle.call_words.specs.Decode.{read_call}
use Rattle.answer_words.specs.Encode.{answer_size, answer_words, written}
use Rattle.questions.specs.Question.{question_of}
use Rattle.question_words.specs.Form.{is_read}
use Rattle.question_words.specs.Decode.{read_question}
use Rattle.question_words.specs.Encode.{question_words}

-- a report is answered as by its step
unfoldable pub read_words : List ℕ → List ℕ → World → List ℕ
read_words call bytes w =
    answer_words (step_of (read_call call bytes) w).result.answer if leb (get_or call 0 0) 21 else
    question_words (question_of (read_question (get_or call 0 0) call bytes) w)

-- a status, and the words lent for the answer. 1: neither a report nor a question; 2: not a session's own words; 3: too few words for the
-- answer
unfoldable pub reading_of : List ℕ → List ℕ → Kept → Lent → List ℕ → After ℕ (List ℕ)
reading_of call bytes k l out =
    after 1 out if not (is_read call) else
    after 2 out if not (is_session k.words) else
    after 3 out if ltb (length out) answer_size else
    after 0 (written (read_words call bytes (world k.session l)) out)
