-- A call over a lent session is the step of its call by value, so the theorem speaks of it too. The premise is what the lent call ensures: its
-- answer, and the session and the store as it leaves them. Assumes nothing.
use Rattle.std.specs.Prelude.{Result}
use mathlib.Core.Path.{◌≡◌, sym, ap}
use Rattle.chain.specs.After.{After, after}
use Rattle.models.specs.declared.{Refusal.Refusal, RequestId.RequestId, RequestReport.RequestReport}
use Rattle.rows.specs.Store.{Store}
use Rattle.session.specs.Lent.{lent, memory}
use Rattle.session.specs.declared.{Called.Called, Session.Session}
use Rattle.reports.specs.Change.{change_of}
use Rattle.polls.specs.Poll.{poll_of}
use Rattle.lent.specs.Lent.{polled_as, reported_as}
use Rattle.calls.specs.Answers.{outcome, of_poll, of_report}
use Rattle.calls.specs.Calls.{Changing, Poll, Begin, Change}
use Rattle.calls.specs.Step.{World, world_store, polls, reports, change_by, begun_of, step_of}
use Rattle.polls.specs.declared.{PollAnswer.PollAnswer}

module _ (id : RequestId) (w : World) (s : Session) where
  pub lent_poll : (a : Result PollAnswer Refusal) → polled_as a s ≡ poll_of id w.session (world_store w) → step_of (Begin (Poll id)) w ≡ after (outcome (of_poll a) s) w.lent
  unfolding step_of begun_of
  lent_poll a e = ap (λ (o : Called PollAnswer). polls o w) (sym e)

  pub lent_change : (c : Changing) (store : Store) (a : Result RequestReport Refusal) → after (reported_as a s) store ≡ change_of id (change_by c) w.session (world_store w)
      → step_of (Change id c) w ≡ after (outcome (of_report a) s) (lent w.lent.bus (memory store w.lent.memory.area))
  unfolding step_of
  lent_change c store a e = ap (λ (o : After (Called RequestReport) Store). reports o w) (sym e)
