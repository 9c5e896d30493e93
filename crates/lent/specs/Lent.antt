-- What a call over a lent session answers and leaves, as the call by value returns it. Assumes nothing.
use Rattle.std.specs.Prelude.{Result}
use Rattle.session.specs.declared.{Called.Called, Session.Session}
use Rattle.models.specs.declared.{Refusal.Refusal, RequestReport.RequestReport}
use Rattle.polls.specs.declared.{PollAnswer.PollAnswer}

abbrev pub polled_as : Result PollAnswer Refusal → Session → Called PollAnswer
polled_as a s = record { answer = a; session = s }

abbrev pub reported_as : Result RequestReport Refusal → Session → Called RequestReport
reported_as a s = record { answer = a; session = s }
