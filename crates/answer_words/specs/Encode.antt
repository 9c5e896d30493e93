-- Answers as words: a tag, then the answer's values, then zeros. Assumes nothing.
use Rattle.std.specs.Prelude.{ℕ, List, [], ◌∷◌, length, replicate, ltb}
use Rattle.chain.specs.Chain.{◌if◌else◌}
use Rattle.words.specs.Records.{splice}
use Rattle.models.specs.Values.{error_words}
use Rattle.models.specs.declared.{Refusal.Refusal, RequestReport.RequestReport}
use Rattle.rows.specs.Values.{report_values}
use Rattle.session.specs.declared.{Recovery.Recovery}
use Rattle.reports.specs.Said.{part_values}
use Rattle.submissions.specs.Said.{begun_values, plan_values}
use Rattle.submissions.specs.declared.{PlanSubmission.PlanSubmission, Submission.Submission}
use Rattle.recovery.specs.Said.{recovering_values, recovered_values}
use Rattle.recovery.specs.declared.{AbortReport.AbortReport}
use Rattle.calls.specs.declared.{Answer.Answer}

-- how many words an answer has
abbrev pub answer_size : ℕ
answer_size = 32

unfoldable pub refusal_words : Refusal → List ℕ
refusal_words r = 0 ∷ r.number ∷ error_words r.error

unfoldable pub begun_words : Submission → List ℕ
begun_words x = 2 ∷ begun_values x

unfoldable pub plan_words : PlanSubmission → List ℕ
plan_words x = 3 ∷ plan_values x

unfoldable pub report_words : RequestReport → List ℕ
report_words x = 4 ∷ report_values x

unfoldable pub recovering_words : Recovery → List ℕ
recovering_words x = 9 ∷ recovering_values x

unfoldable pub recovered_words : AbortReport → List ℕ
recovered_words x = 10 ∷ recovered_values x

abbrev pub answer_words : Answer → List ℕ
answer_words (Answer.Refused r) = refusal_words r
answer_words Answer.Pass = 1 ∷ []
answer_words (Answer.Begun x) = begun_words x
answer_words (Answer.PlanBegun x) = plan_words x
answer_words (Answer.Report x) = report_words x
answer_words Answer.NoReport = 5 ∷ []
answer_words (Answer.Asked token) = 6 ∷ token ∷ []
answer_words (Answer.Number n) = 7 ∷ n ∷ []
answer_words (Answer.Bytes p) = 8 ∷ part_values p
answer_words (Answer.Recovering x) = recovering_words x
answer_words (Answer.Recovered x) = recovered_words x

-- the words w and then zeros, as an answer's; a slice that is too short, or words that are too many, change nothing
unfoldable pub written : List ℕ → List ℕ → List ℕ
written w out =
    out if ltb (length out) answer_size else
    out if ltb answer_size (length w) else
    splice 0 w (splice 0 (replicate answer_size 0) out)
