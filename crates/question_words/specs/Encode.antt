-- Answers to questions as words: a tag, then the answer's fields. Assumes nothing.
use Rattle.std.specs.Prelude.{Option, Some, None, ℕ, List, [], ◌∷◌}
use Rattle.words.specs.Words.{option_u64_words}
use Rattle.models.specs.Codes.{controller_word}
use Rattle.models.specs.declared.{RequestReport.RequestReport}
use Rattle.rows.specs.Values.{report_values}
use Rattle.targets.specs.declared.{wants.Wanted.Wanted}
use Rattle.session.specs.declared.{Session.Session}
use Rattle.session_words.specs.State.{ports_words, stall_words, flight_words, ports_tail, revision_tail, stall_tail}
use Rattle.answer_words.specs.Encode.{refusal_words}
use Rattle.questions.specs.declared.{QuestionAnswer.QuestionAnswer}

-- of what is in flight the kind alone
unfoldable pub session_status_words : Session → List ℕ
session_status_words s =
    11 ∷ s.number ∷ s.generation ∷ s.next_sequence
    ∷ ports_tail (ports_words s.ports)
    (controller_word s.state
    ∷ revision_tail (option_u64_words s.recovery_revision)
    (stall_tail (stall_words s.recoverable_stall)
    ((flight_words s.in_flight).tag ∷ s.size.row_count ∷ s.size.row_bytes ∷ [])))

unfoldable pub placed_words : ℕ → RequestReport → List ℕ
placed_words place x = 12 ∷ place ∷ report_values x

abbrev pub wanted_words : Option Wanted → List ℕ
wanted_words None = 13 ∷ 0 ∷ 0 ∷ []
wanted_words (Some (Wanted.First number)) = 13 ∷ 1 ∷ number ∷ []
wanted_words (Some (Wanted.Second number)) = 13 ∷ 2 ∷ number ∷ []

abbrev pub question_words : QuestionAnswer → List ℕ
question_words (QuestionAnswer.Refused r) = refusal_words r
question_words (QuestionAnswer.Status s) = session_status_words s
question_words QuestionAnswer.NoReport = 5 ∷ []
question_words (QuestionAnswer.ReportAt place x) = placed_words place x
question_words (QuestionAnswer.Reading x) = wanted_words x
