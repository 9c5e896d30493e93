-- One law for each way out of the session's calls: its premises are the facts in hand there. Assumes nothing.
use Rattle.std.specs.Prelude.{Option, Some, None, Result, Ok, Err, ⊤}
use Prim.Native.Nat.{ℕ}
use mathlib.Core.Bool.{Bool, true, false, not}
use mathlib.Core.List.{List}
use mathlib.Core.Path.{◌≡◌, ◌∙◌}
use Rattle.chain.specs.Chain.{◌if◌else◌}
use Rattle.chain.specs.After.{After, after}
use Rattle.chain.proofs.Chain.{takes, passes, through, not_through}
use Rattle.models.specs.Refusals.{refusal_of, from_backend}
use Rattle.models.specs.declared.ControllerState.TheVariants.{AcquiredUnknown, Initialized, RecoveryRequired}
use Rattle.models.specs.declared.{OperationError.OperationError, Refusal.Refusal}
use Rattle.rows.specs.Store.{Store, emptied}
use Rattle.bus.specs.Tables.{Bus, cleared}
use Rattle.session.specs.Session.{is_closed, raised, with_controller, marked}
use Rattle.session.specs.Lifecycle.{new_session, open_of, acquired_by, initialized_by, closed_session, closed_by, fresh_by, close_of}
use Rattle.session.specs.Lent.{Lent, memory, lent, store_fits, tables_fit, lent_fits}
use Rattle.session.specs.Place.{placed}
use Rattle.session.specs.Start.{ready_of}
use Rattle.session.specs.declared.{Called.Called, Session.Session, lifecycle.AcquireFailure.AcquireFailure, lifecycle.Opening.Opening}
use Rattle.session.proofs.start.Laws.{guard_stop, guard_on}
use Rattle.session.specs.Called.{call_refused, passed}

-- an opening
module _ (o : Opening) (b : Bus) (s : Store) (area : List ℕ) (f : Bool) (ef : f ≡ lent_fits o.size (lent b (memory s area))) where
  pub open_unfit : (r : Refusal) → not f ≡ true → r ≡ refusal_of 3 → after (Err r) (lent b (memory s area)) ≡ open_of o (lent b (memory s area))
  unfolding open_of
  open_unfit r n e = takes (After (Result Session Refusal) Lent) _ _ _ _ (not_through f _ true ef n) (rw e)

  pub open_new : (n : Session) (store : Store) (bus : Bus) → not f ≡ false → store ≡ emptied s → bus ≡ cleared → n ≡ new_session o
      → after (Ok n) (lent bus (memory store area)) ≡ open_of o (lent b (memory s area))
  unfolding open_of
  open_new n store bus t es eb en = passes (After (Result Session Refusal) Lent) _ _ _ _ (not_through f _ false ef t) (rw (es, eb, en))

-- the backend's reply to acquire, initialise and close
module _ (s : Session) (x : Called ⊤) where
  pub acquired_pass : (reply : Result ⊤ AcquireFailure) (next : Session) → reply ≡ (Ok tt) → next ≡ with_controller s AcquiredUnknown s.recovery_revision
      → x ≡ passed next → x ≡ acquired_by reply s
  unfolding acquired_by
  acquired_pass reply next e en ex = ex ∙ rw (e, en)

  module _ (reply : Result ⊤ AcquireFailure) (f : AcquireFailure) (r : Refusal) (er : reply ≡ Err f) (ee : r ≡ from_backend 45 f.error) where
    pub acquired_kept : (v : Option ℕ) (next : Session) → f.retained ≡ true → v ≡ raised s.recovery_revision → next ≡ with_controller s RecoveryRequired v
        → x ≡ call_refused next r → x ≡ acquired_by reply s
    unfolding acquired_by
    acquired_kept v next t ev en ex = rw er (takes (Called ⊤) _ _ _ _ t (ex ∙ rw (en, ev, ee)))

    pub acquired_left : f.retained ≡ false → x ≡ call_refused s r → x ≡ acquired_by reply s
    unfolding acquired_by
    acquired_left t ex = rw er (passes (Called ⊤) _ _ _ _ t (ex ∙ rw ee))

  module _ (reply : Option OperationError) where
    pub initialized_pass : (next : Session) → reply ≡ None → next ≡ with_controller s Initialized s.recovery_revision → x ≡ passed next
        → x ≡ initialized_by reply s
    unfolding initialized_by
    initialized_pass next e en ex = ex ∙ rw (e, en)

    pub closed_pass : (fresh : ℕ) (next : Session) (store left : Store) → reply ≡ None → left ≡ emptied store → next ≡ closed_session s fresh
        → x ≡ passed next → after x left ≡ closed_by reply fresh s store
    unfolding closed_by
    closed_pass fresh next store left e ea en ex = rw (ex, e, en, ea)

    module _ (e : OperationError) (m : Session) (r : Refusal) (er : reply ≡ Some e) (em : m ≡ marked s) (ee : r ≡ from_backend 45 e) (ex : x ≡ call_refused m r) where
      pub initialized_failed : x ≡ initialized_by reply s
      unfolding initialized_by
      initialized_failed = ex ∙ rw (er, em, ee)

      pub closed_failed : (fresh : ℕ) (store : Store) → after x store ≡ closed_by reply fresh s store
      unfolding closed_by
      closed_failed fresh store = rw (ex, er, em, ee)

-- a close
module _ (fresh : Option ℕ) (reply : Option OperationError) (s : Session) (store : Store) (x : Called ⊤) (v : Result ⊤ Refusal) (ev : v ≡ ready_of s (store_fits s.size store)) where
  pub close_stop : (r : Refusal) → v ≡ Err r → x ≡ call_refused s r → after x store ≡ close_of fresh reply s store
  unfolding close_of
  close_stop r e ex = guard_stop (After (Called ⊤) Store) (λ r. after (call_refused s r) store) _ s _ _ v ev r e (rw ex)

  module _ (np : v ≡ (Ok tt)) (k : Bool) (ek : k ≡ is_closed s.state) where
    passed_start : (y : After (Called ⊤) Store) → y ≡ (after (passed s) store if is_closed s.state else fresh_by fresh reply s store)
        → y ≡ close_of fresh reply s store
    unfolding close_of
    passed_start y e = guard_on (After (Called ⊤) Store) _ _ s _ y v ev np e

    pub close_closed : k ≡ true → x ≡ passed s → after x store ≡ close_of fresh reply s store
    close_closed t ex = passed_start _ (takes (After (Called ⊤) Store) _ _ _ _ (through k _ true ek t) (rw ex))

    module _ (nk : k ≡ false) where
      pub close_none : fresh ≡ None → x ≡ call_refused s (refusal_of 52) → after x store ≡ close_of fresh reply s store
      unfolding fresh_by
      close_none e ex = passed_start _ (passes (After (Called ⊤) Store) _ _ _ _ (through k _ false ek nk) (rw (e, ex)))

      pub close_on : (n : ℕ) (left : Store) → fresh ≡ Some n → after x left ≡ closed_by reply n s store
          → after x left ≡ close_of fresh reply s store
      unfolding fresh_by
      close_on n left e h = passed_start _ (passes (After (Called ⊤) Store) _ _ _ _ (through k _ false ek nk) (h ∙ rw e))

-- a placing call
module _ (done : After (Result ⊤ Refusal) Bus) (s : Session) (b : Bus) (v : Result ⊤ Refusal) (ev : v ≡ ready_of s (tables_fit b)) where
  pub place_stop : (r : Refusal) → v ≡ Err r → after v b ≡ placed done s b
  unfolding placed
  place_stop r e = guard_stop (After (Result ⊤ Refusal) Bus) (λ r. after (Err r) b) done s _ _ v ev r e (rw e)

  pub place_on : (y : After (Result ⊤ Refusal) Bus) → v ≡ (Ok tt) → y ≡ done → y ≡ placed done s b
  unfolding placed
  place_on y e ey = guard_on (After (Result ⊤ Refusal) Bus) _ done s _ y v ev e ey

-- what passes is the bus after it
pub pass_to : (left next : Bus) → left ≡ next → after {A = Result ⊤ Refusal} (Ok tt) left ≡ after (Ok tt) next
pass_to left next e = rw e
