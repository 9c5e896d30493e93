-- One law for each way out of a recovery's start: its premises are the facts in hand there. Assumes nothing.
use Rattle.std.specs.Prelude.{Option, Some, None, Result, Ok, Err, ⊤}
use Prim.Native.Nat.{ℕ, ◌≤◌}
use mathlib.Core.Bool.{Bool, true, false, not}
use mathlib.Core.List.{List}
use mathlib.Core.Path.{◌≡◌, sym, ap, ◌∙◌}
use native.Mathlib.Omega.{arith}
use lib.ListN.{length, get_or, take, length-take}
use Rattle.chain.specs.Lists.{found_in, listed}
use Rattle.chain.proofs.Chain.{takes, passes}
use Rattle.models.specs.Refusals.{refusal_of}
use Rattle.models.specs.Requests.{device_may_access}
use Rattle.models.specs.declared.{Refusal.Refusal, RequestId.RequestId}
use Rattle.rows.specs.Table.{empty_row, read_rows}
use Rattle.rows.specs.Store.{Store}
use Rattle.rows.specs.declared.{Row.Row}
use Rattle.ledger.specs.Search.{is_at}
use Rattle.session.specs.Lent.{store_fits}
use Rattle.session.specs.Session.{may_recover, with_flight}
use Rattle.session.specs.Start.{ready_of}
use Rattle.session.specs.declared.{InFlight.InFlight, Recovery.Recovery, RecoveryKind.RecoveryKind, Session.Session}
use Rattle.session.proofs.start.Laws.{guard_stop, guard_on}
use Rattle.scope.specs.Affected.{affected_of, tokens_of}
use Rattle.recovery.specs.Recover.{begin_refused, recovery_of, begun_as, begin_row, recover_by, recover_of}
use Rattle.recovery.specs.declared.{Begun.Begun}

pub begun_is : (s : Session) (x : Recovery) (w list tokens : List ℕ) (count : ℕ) (next : Session)
    → next ≡ with_flight s (InFlight.Recovery x) → take count list ≡ affected_of x.device x.endpoint (read_rows w)
    → count ≤ 128 → length list ≡ 128 → tokens ≡ listed 128 0 (tokens_of (read_rows w) (take count list))
    → ◌≡◌ {A = Begun} (record { answer = Ok x; session = next; tokens = tokens; count = count }) (begun_as x s (read_rows w))
unfolding begun_as
begun_is s x w list tokens count next en ea h el et =
    let len : length (take count list) ≡ count = simp length-take (omega arith) in
    let e : count ≡ length (affected_of x.device x.endpoint (read_rows w)) = sym len ∙ ap length ea in
    rw (en, et, ea) (ap (λ (n : ℕ). record {
      answer = Ok x;
      session = with_flight s (InFlight.Recovery x);
      tokens = listed 128 0 (tokens_of (read_rows w) (affected_of x.device x.endpoint (read_rows w)));
      count = n;
    }) e)

module _ (s : Session) (r : Row) (id : RequestId) (k : RecoveryKind) (rows : List Row) (x : Begun) (b : Bool) (eb : b ≡ device_may_access r.state) where
  pub row_43 : not b ≡ true → x ≡ begin_refused s (refusal_of 43) → x ≡ begin_row id k r s rows
  unfolding begin_row
  row_43 t e = takes Begun _ _ _ _ (rw eb at t) e

  module _ (t : not b ≡ false) (m : Bool) (em : m ≡ may_recover s.state) where
    pub row_44 : not m ≡ true → x ≡ begin_refused s (refusal_of 44) → x ≡ begin_row id k r s rows
    unfolding begin_row
    row_44 n e = passes Begun _ _ _ _ (rw eb at t) (takes Begun _ _ _ _ (rw em at n) e)

    pub row_on : (q : Recovery) → not m ≡ false → q ≡ recovery_of id k r → x ≡ begun_as q s rows → x ≡ begin_row id k r s rows
    unfolding begin_row
    row_on q n eq e = passes Begun _ _ _ _ (rw eb at t) (passes Begun _ _ _ _ (rw em at n) (rw eq at e))

module _ (id : RequestId) (k : RecoveryKind) (s : Session) (store : Store) (x : Begun) (v : Result ⊤ Refusal) (ev : v ≡ ready_of s (store_fits s.size store)) where
  pub begin_stop : (r : Refusal) → v ≡ Err r → x ≡ begin_refused s r → x ≡ recover_of id k s store
  unfolding recover_of
  begin_stop r e ex = guard_stop Begun (begin_refused s) _ s _ x v ev r e ex

  module _ (np : v ≡ (Ok tt)) (g : Option ℕ) (eg : g ≡ found_in (is_at id) store.rows) where
    pub begin_40 : g ≡ None → x ≡ begin_refused s (refusal_of 40) → x ≡ recover_of id k s store
    unfolding recover_of recover_by
    begin_40 h e = guard_on Begun _ _ s _ x v ev np (e ∙ rw (sym eg ∙ h))

    pub begin_on : (i : ℕ) (r : Row) → g ≡ Some i → r ≡ get_or store.rows i empty_row → x ≡ begin_row id k r s store.rows → x ≡ recover_of id k s store
    unfolding recover_of recover_by
    begin_on i r h er e = guard_on Begun _ _ s _ x v ev np (e ∙ rw (sym eg ∙ h, er))
