-- Every number that a call of the session refuses by is in its list. Assumes nothing.
use Rattle.std.specs.Prelude.{Option, Some, None, Result, ⊤, Ok, Err}
use Prim.Native.Nat.{ℕ}
use mathlib.Core.Bool.{Bool, true}
use mathlib.Core.List.{List}
use mathlib.Core.Path.{◌≡◌, refl}
use Rattle.chain.specs.After.{After, after}
use Rattle.chain.specs.Lists.{is_among}
use Rattle.chain.proofs.Chain.{if_all}
use Rattle.models.specs.Refusals.{refusal_of}
use Rattle.models.specs.Said.{Tabled, verdict_said}
use Rattle.models.specs.declared.{DeviceSnapshot.DeviceSnapshot, OperationError.OperationError, Refusal.Refusal}
use Rattle.models.proofs.Said.{tabled_says, tabled_own, tabled_backend, tabled_in, said_of}
use Rattle.rows.specs.Store.{Store}
use Rattle.bus.specs.Said.{placed_port_numbers, placed_list_numbers}
use Rattle.bus.specs.Tables.{Bus}
use Rattle.bus.specs.declared.{PortRow.PortRow}
use Rattle.bus.proofs.Said.{set_port_tabled, set_endpoints_tabled}
use Rattle.session.specs.Lent.{Lent}
use Rattle.session.specs.Lifecycle.{open_of, acquired_by, acquire_of, initialized_by, initialize_of, closed_by, fresh_by, close_of}
use Rattle.session.specs.Place.{placed, set_device_of, set_port_of, set_endpoints_of, set_reconcile_of}
use Rattle.session.specs.Said.{opened_said, open_numbers, place_numbers, set_port_numbers, set_endpoints_numbers, acquire_numbers, initialize_numbers, close_numbers}
use Rattle.session.specs.Start.{guarded}
use Rattle.session.specs.declared.{Called.Called, Session.Session, lifecycle.AcquireFailure.AcquireFailure, lifecycle.Opening.Opening}

-- what holds of both refusals of the start, and of what the call does
pub guarded_all : {A : Type 0} (P : A → Type 0) (s : Session) (fits : Bool) (stop : Refusal → A) (done : A) → P (stop (refusal_of 1)) → P (stop (refusal_of 3)) → P done
    → P (guarded s fits stop done)
unfolding guarded
guarded_all P s fits stop done a b d = if_all P _ _ _ a (if_all P _ _ _ b d)

-- ---- an opening
abbrev Opens : After (Result Session Refusal) Lent → Type 0
Opens o = Tabled open_numbers (opened_said o.result)

module _ (o : Opening) (l : Lent) where
  pub open_tabled : Tabled open_numbers (opened_said (open_of o l).result)
  unfolding open_of
  open_tabled = if_all Opens _ _ _ (tabled_own _ 3 refl) (tabled_says _ _)

  pub open_said : (x : Result Session Refusal) (left : Lent) → after x left ≡ open_of o l → (after x left ≡ open_of o l) × Tabled open_numbers (opened_said x)
  open_said x left e = said_of Opens _ _ e open_tabled

-- ---- acquire, initialise, close
abbrev Moves : List ℕ → Called ⊤ → Type 0
Moves ns x = Tabled ns (verdict_said x.answer)

acquired_by_lem : (reply : Result ⊤ AcquireFailure) (s : Session) → Moves acquire_numbers (acquired_by reply s)
unfolding acquired_by
acquired_by_lem (Ok tt) s = tabled_says _ _
acquired_by_lem (Err f) s = if_all (Moves acquire_numbers) _ _ _ (tabled_backend _ 45 f.error refl refl) (tabled_backend _ 45 f.error refl refl)

initialized_by_lem : (reply : Option OperationError) (s : Session) → Moves initialize_numbers (initialized_by reply s)
unfolding initialized_by
initialized_by_lem None s = tabled_says _ _
initialized_by_lem (Some e) s = tabled_backend _ 45 e refl refl

module _ (reply : Result ⊤ AcquireFailure) (s : Session) where
  pub acquire_tabled : Tabled acquire_numbers (verdict_said (acquire_of reply s).answer)
  unfolding acquire_of
  acquire_tabled =
      if_all (Moves acquire_numbers) _ _ _ (tabled_own _ 1 refl) (if_all (Moves acquire_numbers) _ _ _ (tabled_own _ 50 refl) (acquired_by_lem reply s))

  pub acquire_said : (x : Called ⊤) → x ≡ acquire_of reply s → (x ≡ acquire_of reply s) × Tabled acquire_numbers (verdict_said x.answer)
  acquire_said x e = said_of (Moves acquire_numbers) _ _ e acquire_tabled

module _ (reply : Option OperationError) (s : Session) where
  pub initialize_tabled : Tabled initialize_numbers (verdict_said (initialize_of reply s).answer)
  unfolding initialize_of
  initialize_tabled =
      if_all (Moves initialize_numbers) _ _ _ (tabled_own _ 1 refl) (if_all (Moves initialize_numbers) _ _ _ (tabled_own _ 51 refl) (initialized_by_lem reply s))

  pub initialize_said : (x : Called ⊤) → x ≡ initialize_of reply s → (x ≡ initialize_of reply s) × Tabled initialize_numbers (verdict_said x.answer)
  initialize_said x e = said_of (Moves initialize_numbers) _ _ e initialize_tabled

abbrev Closes : After (Called ⊤) Store → Type 0
Closes o = Moves close_numbers o.result

closed_by_lem : (reply : Option OperationError) (fresh : ℕ) (s : Session) (store : Store) → Closes (closed_by reply fresh s store)
unfolding closed_by
closed_by_lem (Some e) fresh s store = tabled_backend _ 45 e refl refl
closed_by_lem None fresh s store = tabled_says _ _

fresh_by_lem : (fresh : Option ℕ) (reply : Option OperationError) (s : Session) (store : Store) → Closes (fresh_by fresh reply s store)
unfolding fresh_by
fresh_by_lem None reply s store = tabled_own _ 52 refl
fresh_by_lem (Some fresh) reply s store = closed_by_lem reply fresh s store

module _ (fresh : Option ℕ) (reply : Option OperationError) (s : Session) (store : Store) where
  pub close_tabled : Tabled close_numbers (verdict_said (close_of fresh reply s store).result.answer)
  unfolding close_of
  close_tabled =
      guarded_all Closes s _ _ _ (tabled_own _ 1 refl) (tabled_own _ 3 refl) (if_all Closes _ _ _ (tabled_says _ _) (fresh_by_lem fresh reply s store))

  pub close_said : (x : Called ⊤) (left : Store) → after x left ≡ close_of fresh reply s store
      → (after x left ≡ close_of fresh reply s store) × Tabled close_numbers (verdict_said x.answer)
  close_said x left e = said_of Closes _ _ e close_tabled

-- ---- the placing calls
abbrev Places : List ℕ → After (Result ⊤ Refusal) Bus → Type 0
Places ns o = Tabled ns (verdict_said o.result)

pub placed_said_lem : (ns : List ℕ) (o : After (Result ⊤ Refusal) Bus) (x : Result ⊤ Refusal) (left : Bus) → after x left ≡ o → Tabled ns (verdict_said o.result)
    → (after x left ≡ o) × Tabled ns (verdict_said x)
placed_said_lem ns o x left e h = said_of (Places ns) _ _ e h

module _ (s : Session) (b : Bus) where
  placed_tabled : (ns : List ℕ) (done : After (Result ⊤ Refusal) Bus) → is_among 1 ns ≡ true → is_among 3 ns ≡ true → Places ns done → Places ns (placed done s b)
  unfolding placed
  placed_tabled ns done a c h = guarded_all (Places ns) s _ _ _ (tabled_own _ 1 a) (tabled_own _ 3 c) h

  pub set_device_tabled : (d : DeviceSnapshot) → Tabled place_numbers (verdict_said (set_device_of d s b).result)
  unfolding set_device_of
  set_device_tabled d = placed_tabled place_numbers _ refl refl (tabled_says _ _)

  pub set_port_call_tabled : (number : ℕ) (row : PortRow) → Tabled set_port_numbers (verdict_said (set_port_of number row s b).result)
  unfolding set_port_of
  set_port_call_tabled number row =
      placed_tabled set_port_numbers _ refl refl (tabled_in set_port_numbers placed_port_numbers refl _ (set_port_tabled number row b s.ports))

  pub set_endpoints_call_tabled : (slot : ℕ) (l : List ℕ) → Tabled set_endpoints_numbers (verdict_said (set_endpoints_of slot l s b).result)
  unfolding set_endpoints_of
  set_endpoints_call_tabled slot l =
      placed_tabled set_endpoints_numbers _ refl refl (tabled_in set_endpoints_numbers placed_list_numbers refl _ (set_endpoints_tabled slot l b))

  pub set_reconcile_tabled : (slot : ℕ) (mark : Bool) → Tabled place_numbers (verdict_said (set_reconcile_of slot mark s b).result)
  unfolding set_reconcile_of
  set_reconcile_tabled slot mark = placed_tabled place_numbers _ refl refl (tabled_says _ _)
