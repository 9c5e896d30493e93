-- A poll keeps the session sound. Assumes nothing.
use Rattle.models.specs.declared.{RequestId.RequestId}
use Rattle.rows.specs.Store.{Store}
use Rattle.rows.specs.Table.{row_in}
use Rattle.session.specs.Session.{with_flight}
use Rattle.session.specs.declared.{InFlight.InFlight, Session.Session}
use Rattle.polls.specs.Poll.{poll_of}
use Rattle.runs.specs.Sound.{Sound}
use Rattle.runs.proofs.Moves.{stays}
use Rattle.runs.proofs.Rows.{Leads, kept, moved}
use Rattle.runs.proofs.Ids.{at_own, at_used}
use Rattle.runs.proofs.Ways.{poll_all}

module _ {s : Session} {store : Store} (k : Sound s store) where
  pub poll_sound : (id : RequestId) → Leads s store (poll_of id s store).session store
  poll_sound id =
      poll_all id s store (λ o. Leads s store o.session store) (λ x. kept k) (λ i. kept k)
      (λ i h e p r.
      moved k (with_flight s (InFlight.Poll id)) (stays s)
      (record { index = i; below = h; used = at_used id (row_in store.rows i) e; own = at_own id (row_in store.rows i) e; state_is = p }) r)
