-- One law for each way out of a poll: its premises are the facts in hand there. Assumes nothing.
use Rattle.std.specs.Prelude.{Option, Some, None, Result, Ok, Err, ⊤}
use Prim.Native.Nat.{ℕ}
use mathlib.Core.Bool.{Bool, true, false, not}
use mathlib.Core.Path.{◌≡◌, sym, ◌∙◌}
use Rattle.chain.specs.Lists.{found_in}
use Rattle.chain.proofs.Chain.{takes, passes, not_through}
use Rattle.models.specs.Refusals.{refusal_of}
use Rattle.models.specs.Requests.{is_pending}
use Rattle.models.specs.declared.{Refusal.Refusal, RequestId.RequestId, RequestReport.RequestReport}
use Rattle.rows.specs.Table.{row_in}
use Rattle.rows.specs.Store.{Store}
use Rattle.rows.specs.declared.{Row.Row}
use Rattle.rules.specs.Rules.{report_of}
use Rattle.ledger.specs.Search.{is_at}
use Rattle.session.specs.Session.{is_initialized, with_flight}
use Rattle.session.specs.Lent.{store_fits}
use Rattle.session.specs.Start.{ready_of}
use Rattle.session.specs.declared.{Called.Called, InFlight.InFlight, Session.Session}
use Rattle.session.proofs.start.Laws.{guard_stop, guard_on}
use Rattle.polls.specs.Poll.{poll_row, poll_by, poll_of}
use Rattle.polls.specs.declared.{PollAnswer.PollAnswer}
use Rattle.session.specs.Called.{call_refused}

abbrev pub polled_as : Result PollAnswer Refusal → Session → Called PollAnswer
polled_as a s = record { answer = a; session = s }

-- the row of a poll
module _ (s : Session) (row : Row) (id : RequestId) (p : Bool) (ep : p ≡ is_pending row.state) where
  pub row_told : (x : RequestReport) → not p ≡ true → x ≡ report_of row → polled_as (Ok (PollAnswer.Report x)) s ≡ poll_row row id s
  unfolding poll_row
  row_told x t e = takes (Called PollAnswer) _ _ _ _ (not_through p _ true ep t) (rw e)

  module _ (np : not p ≡ false) (b : Bool) (eb : b ≡ is_initialized s.state) where
    pub row_early : (x : Called PollAnswer) → not b ≡ true → x ≡ call_refused s (refusal_of 28) → x ≡ poll_row row id s
    unfolding poll_row
    row_early x t e = passes (Called PollAnswer) _ _ _ _ (not_through p _ false ep np) (takes (Called PollAnswer) _ _ _ _ (not_through b _ true eb t) e)

    pub row_asked : (next : Session) → not b ≡ false → next ≡ with_flight s (InFlight.Poll id) → polled_as (Ok (PollAnswer.Asked row.token)) next ≡ poll_row row id s
    unfolding poll_row
    row_asked next t e = passes (Called PollAnswer) _ _ _ _ (not_through p _ false ep np) (passes (Called PollAnswer) _ _ _ _ (not_through b _ false eb t) (rw e))

-- a poll
module _ (id : RequestId) (s : Session) (store : Store) (x : Called PollAnswer) (v : Result ⊤ Refusal) (ev : v ≡ ready_of s (store_fits s.size store)) where
  pub poll_stop : (r : Refusal) → v ≡ Err r → x ≡ call_refused s r → x ≡ poll_of id s store
  unfolding poll_of
  poll_stop r e ex = guard_stop (Called PollAnswer) (call_refused s) _ s _ x v ev r e ex

  module _ (np : v ≡ (Ok tt)) (g : Option ℕ) (eg : g ≡ found_in (is_at id) store.rows) where
    pub poll_none : g ≡ None → x ≡ call_refused s (refusal_of 40) → x ≡ poll_of id s store
    unfolding poll_of poll_by
    poll_none t e = guard_on (Called PollAnswer) _ _ s _ x v ev np (e ∙ rw (sym eg ∙ t))

    pub poll_at : (i : ℕ) (row : Row) → g ≡ Some i → row ≡ row_in store.rows i → x ≡ poll_row row id s → x ≡ poll_of id s store
    unfolding poll_of poll_by
    poll_at i row t er e = guard_on (Called PollAnswer) _ _ s _ x v ev np (e ∙ rw (sym eg ∙ t, er))
