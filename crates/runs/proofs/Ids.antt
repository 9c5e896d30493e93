-- Request ids, and the row of one. Assumes nothing.
use mathlib.Core.Bool.{true, false, ◌&&◌, false≢true}
use mathlib.Core.Path.{◌≡◌, refl}
use borrow.Author.Tests.{eqb-true, eq-eqb}
use lib.Dec.{eqb}
use Rattle.chain.proofs.Chain.{both}
use Rattle.models.specs.Requests.{device_may_access, is_pending, same_request}
use Rattle.models.specs.declared.{RequestId.RequestId, RequestState.RequestState}
use Rattle.models.specs.declared.RequestState.TheVariants.{Pending, Completed, Failed, Aborted}
use Rattle.rows.specs.Table.{is_held}
use Rattle.rows.specs.declared.{Row.Row}
use Rattle.ledger.specs.Search.{is_at}

pub same_request_lem : (x y : RequestId) → same_request x y ≡ true → x ≡ y
same_request_lem x y e =
    let p = both (eqb x.session y.session && eqb x.generation y.generation) (eqb x.sequence y.sequence) e in
    let q = both (eqb x.session y.session) (eqb x.generation y.generation) p.0 in
    let a = eqb-true _ _ q.0 in
    let b = eqb-true _ _ q.1 in
    let c = eqb-true _ _ p.1 in
    λ i. record { session = a i; generation = b i; sequence = c i }

pub same_self : (x : RequestId) → same_request x x ≡ true
same_self x = rw (eq-eqb x.session x.session refl, eq-eqb x.generation x.generation refl, eq-eqb x.sequence x.sequence refl)

pub free_at : (x : RequestId) (r : Row) → r.used ≡ false → is_at x r ≡ false
unfolding is_at
free_at x r e = rw e

-- a row that a search for an id found is the request of that id
pub at_used : (id : RequestId) (r : Row) → is_at id r ≡ true → r.used ≡ true
unfolding is_at
at_used id r e = (both r.used _ e).0

pub at_own : (id : RequestId) (r : Row) → is_at id r ≡ true → r.id ≡ id
unfolding is_at
at_own id r e = same_request_lem r.id id (both r.used _ e).1

pub pending_access : (s : RequestState) → is_pending s ≡ true → device_may_access s ≡ true
pending_access (Pending cancel late) e = refl
pending_access (Completed actual code cancel) e = absurd (false≢true e)
pending_access (Failed error code quiescent) e = absurd (false≢true e)
pending_access Aborted e = absurd (false≢true e)

-- the row of an id that the device may access is held, so one that is Pending
pub access_held : (x : RequestId) (r : Row) → is_at x r ≡ true → device_may_access r.state ≡ true → is_held r ≡ true
unfolding is_at is_held
access_held x r h e = rw ((both r.used (same_request r.id x) h).0, e)

pub pending_held : (x : RequestId) (r : Row) → is_at x r ≡ true → is_pending r.state ≡ true → is_held r ≡ true
pending_held x r h e = access_held x r h (pending_access r.state e)
