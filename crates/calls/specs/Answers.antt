-- The answer of each call as one type. Assumes nothing.
use Rattle.std.specs.Prelude.{ℕ, Bool, eqb, Option, Some, None, Result, Ok, Err, ⊤}
use Rattle.session.specs.declared.{Recovery.Recovery, Session.Session}
use Rattle.calls.specs.declared.{Answer.Answer, Outcome.Outcome}
use Rattle.models.specs.declared.{Refusal.Refusal, RequestId.RequestId, RequestReport.RequestReport}
use Rattle.reports.specs.declared.{Part.Part}
use Rattle.recovery.specs.declared.{AbortReport.AbortReport}
use Rattle.submissions.specs.declared.{PlanSubmission.PlanSubmission, Submission.Submission}
use Rattle.polls.specs.declared.{PollAnswer.PollAnswer}

abbrev pub outcome : Answer → Session → Outcome
outcome a s = record { answer = a; session = s }

-- a refused opening leaves the session as it is
abbrev pub of_opened : Result Session Refusal → Session → Outcome
of_opened (Err r) s = outcome (Answer.Refused r) s
of_opened (Ok next) s = outcome Answer.Pass next

-- what passes is told by f
abbrev pub answer_by : {A : Type 0} → (A → Answer) → Result A Refusal → Answer
answer_by f (Err r) = Answer.Refused r
answer_by f (Ok x) = f x

abbrev pub of_verdict : Result ⊤ Refusal → Answer
of_verdict = answer_by (λ x. Answer.Pass)

abbrev pub of_submit : Result Submission Refusal → Answer
of_submit = answer_by (λ x. Answer.Begun x)

abbrev pub of_plan : Result PlanSubmission Refusal → Answer
of_plan = answer_by (λ x. Answer.PlanBegun x)

abbrev pub of_report : Result RequestReport Refusal → Answer
of_report = answer_by (λ x. Answer.Report x)

abbrev pub of_polled : PollAnswer → Answer
of_polled (PollAnswer.Report x) = Answer.Report x
of_polled (PollAnswer.Asked token) = Answer.Asked token

abbrev pub of_poll : Result PollAnswer Refusal → Answer
of_poll = answer_by of_polled

abbrev pub of_next_report : Option RequestReport → Answer
of_next_report None = Answer.NoReport
of_next_report (Some x) = Answer.Report x

abbrev pub of_next : Result (Option RequestReport) Refusal → Answer
of_next = answer_by of_next_report

abbrev pub of_tally : Result ℕ Refusal → Answer
of_tally = answer_by (λ x. Answer.Number x)

abbrev pub of_part : Result Part Refusal → Answer
of_part = answer_by (λ x. Answer.Bytes x)

abbrev pub of_begin : Result Recovery Refusal → Answer
of_begin = answer_by (λ x. Answer.Recovering x)

abbrev pub of_recovery : Result AbortReport Refusal → Answer
of_recovery = answer_by (λ x. Answer.Recovered x)

-- ---- what an answer is

-- which one, by its word (docs/CALLS.md)
abbrev pub answer_tag : Answer → ℕ
answer_tag (Answer.Refused r) = 0
answer_tag Answer.Pass = 1
answer_tag (Answer.Begun x) = 2
answer_tag (Answer.PlanBegun x) = 3
answer_tag (Answer.Report x) = 4
answer_tag Answer.NoReport = 5
answer_tag (Answer.Asked token) = 6
answer_tag (Answer.Number n) = 7
answer_tag (Answer.Bytes x) = 8
answer_tag (Answer.Recovering x) = 9
answer_tag (Answer.Recovered x) = 10

abbrev pub is_pass : Answer → Bool
is_pass a = eqb (answer_tag a) 1

-- a poll that opened its operation
abbrev pub is_asked : Answer → Bool
is_asked a = eqb (answer_tag a) 6

-- a recovery that opened its operation
abbrev pub is_recovering : Answer → Bool
is_recovering a = eqb (answer_tag a) 9

-- the id of a submission that opened its operation
abbrev pub begun_id : Answer → Option RequestId
begun_id (Answer.Refused r) = None
begun_id Answer.Pass = None
begun_id (Answer.Begun x) = Some x.id
begun_id (Answer.PlanBegun x) = Some x.id
begun_id (Answer.Report x) = None
begun_id Answer.NoReport = None
begun_id (Answer.Asked token) = None
begun_id (Answer.Number n) = None
begun_id (Answer.Bytes x) = None
begun_id (Answer.Recovering x) = None
begun_id (Answer.Recovered x) = None
