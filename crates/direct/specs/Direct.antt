-- What the calls on one request leave in words, by the definitions of the plain calls. Assumes nothing.
use Rattle.std.specs.Prelude.{ℕ, List, Result, Ok, Err}
use Rattle.chain.specs.After.{After, after}
use Rattle.rows.specs.Store.{Store}
use Rattle.session_words.specs.State.{Kept, kept_as}
use Rattle.calls.specs.Answers.{of_report, of_poll}
use Rattle.calls.specs.declared.{Answer.Answer}
use Rattle.answer_words.specs.Encode.{answer_words, written}
use Rattle.models.specs.declared.{Refusal.Refusal, RequestReport.RequestReport}
use Rattle.session.specs.declared.{Called.Called}
use Rattle.polls.specs.declared.{PollAnswer.PollAnswer}

-- the words lent for an answer, with the answer
abbrev pub told : Answer → List ℕ → List ℕ
told a out = written (answer_words a) out

abbrev pub of_applied : Result RequestReport Refusal → Answer
of_applied (Err r) = Answer.Refused r
of_applied (Ok x) = Answer.Report x

-- with what a change leaves beside its answer, the ledger's and the call's
abbrev pub applied_told : After (Result RequestReport Refusal) Store → List ℕ → After (List ℕ) Store
applied_told o out = after (told (of_applied o.result) out) o.lent

abbrev pub reported_told : After (Called RequestReport) Store → List ℕ → After (List ℕ) Store
reported_told o out = after (told (of_report o.result.answer) out) o.lent

-- and a poll, in the session's words w
abbrev pub polled_told : Called PollAnswer → List ℕ → List ℕ → After (List ℕ) Kept
polled_told x w out = after (told (of_poll x.answer) out) (kept_as w x.session)
