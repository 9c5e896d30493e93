-- The questions, each with its arguments, and their answers. Assumes nothing.
use Rattle.std.specs.Prelude.{ℕ, List, Option, Some, None, Result, Ok, Err}
use Rattle.reports.specs.Scan.{report_from}
use Rattle.submissions.specs.Submit.{Request}
use Rattle.submissions.specs.Wants.{submit_wants, plan_wants}
use Rattle.calls.specs.Calls.{PlanRequest}
use Rattle.calls.specs.Step.{World, world_store}
use Rattle.questions.specs.declared.{QuestionAnswer.QuestionAnswer}
use Rattle.reports.specs.declared.{PlacedReport.PlacedReport}
use Rattle.models.specs.declared.{Refusal.Refusal}

pub data Question : Type 0 where
  SessionStatus : Question
  ReportFrom : ℕ → Question
  -- as the submissions of `Beginning`
  SubmitWants : List ℕ → Request → Question
  PlanWants : PlanRequest → Question

abbrev pub of_placed : Result (Option PlacedReport) Refusal → QuestionAnswer
of_placed (Err r) = QuestionAnswer.Refused r
of_placed (Ok None) = QuestionAnswer.NoReport
of_placed (Ok (Some p)) = QuestionAnswer.ReportAt p.place p.report

unfoldable pub question_of : Question → World → QuestionAnswer
question_of SessionStatus w = QuestionAnswer.Status w.session
question_of (ReportFrom place) w = of_placed (report_from place w.session (world_store w))
question_of (SubmitWants packets q) w = QuestionAnswer.Reading (submit_wants packets q w.session w.lent)
question_of (PlanWants q) w = QuestionAnswer.Reading (plan_wants q.plan q.bytes q.reading w.session w.lent)
