-- What a sound session says of the row in flight, and of a store while the controller is Closed. Assumes nothing.
use Prim.Native.Nat.{ℕ, ◌<◌}
use mathlib.Core.Bool.{true}
use mathlib.Core.Path.{◌≡◌, sym, ap, ◌∙◌, subst}
use native.Mathlib.Omega.{arith}
use lib.ListN.{length}
use Rattle.chain.specs.Lists.{count}
use Rattle.chain.proofs.Lists.{sum_le}
use Rattle.models.specs.Requests.{is_pending}
use Rattle.models.specs.declared.{RequestId.RequestId, RequestState.RequestState}
use Rattle.rows.specs.Table.{is_held, row_in}
use Rattle.rows.specs.Store.{Store}
use Rattle.ledger.specs.Search.{is_at}
use Rattle.session.specs.Session.{is_closed}
use Rattle.session.specs.declared.{InFlight.InFlight, Session.Session}
use Rattle.runs.specs.Sound.{InFlightAt, FlightSound, is_used, Sound}
use Rattle.runs.proofs.Ids.{at_used, at_own}
use Rattle.runs.proofs.Rows.{one, held_less}
use Rattle.runs.proofs.Lifecycle.{closed_bare}

module _ {s : Session} {store : Store} (k : Sound s store) where
  -- a submission or a poll that waits: the row that its id finds is Pending
  module _ (id : RequestId) (i : ℕ) (h : i < length store.rows) (hit : is_at id (row_in store.rows i) ≡ true) where
    at_flight : (state : RequestState → Type 0) → InFlightAt store.rows id state → state (row_in store.rows i).state
    at_flight state f =
        subst (λ (n : ℕ). state (row_in store.rows n).state)
        (k.distinct f.index i f.below h f.used (at_used id (row_in store.rows i) hit) (f.own ∙ sym (at_own id (row_in store.rows i) hit))) f.state_is

    in_flight : (f : InFlight) → s.in_flight ≡ f → FlightSound f store.rows
    in_flight f e = subst (λ (g : InFlight). FlightSound g store.rows) e k.flight

    pub submission_pending : s.in_flight ≡ InFlight.Submission id → is_pending (row_in store.rows i).state ≡ true
    submission_pending e = ap is_pending (at_flight _ (in_flight (InFlight.Submission id) e))

    pub poll_pending : s.in_flight ≡ InFlight.Poll id → is_pending (row_in store.rows i).state ≡ true
    poll_pending e = at_flight _ (in_flight (InFlight.Poll id) e)

  pub closed_unheld : is_closed s.state ≡ true → count is_held store.rows ≡ 0
  closed_unheld e = omega (arith, k.empty (closed_bare s.state e), sum_le (one is_held) (one is_used) store.rows held_less)
