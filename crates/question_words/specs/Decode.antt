-- The question that words say. Assumes nothing.
use Rattle.std.specs.Prelude.{ℕ, List, get_or, drop, eqb}
use Rattle.chain.specs.Chain.{◌if◌else◌}
use Rattle.call_words.specs.Arguments.{read_request, read_plan_request}
use Rattle.questions.specs.Question.{Question, SessionStatus, ReportFrom, SubmitWants, PlanWants}

unfoldable pub read_question : ℕ → List ℕ → List ℕ → Question
read_question n w bytes =
    SessionStatus if eqb n 25 else
    ReportFrom (get_or w 1 0) if eqb n 26 else
    SubmitWants (drop 27 w) (read_request w bytes) if eqb n 27 else
    PlanWants (read_plan_request w bytes)
