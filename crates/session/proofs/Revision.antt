-- The recovery mark and the revision, by what the code has found. Assumes nothing.
use Rattle.std.specs.Prelude.{Option, Some, None, SomeIff}
use Prim.Native.Nat.{ℕ, ◌+◌, ◌-◌, ◌^◌, ◌<◌}
use mathlib.Core.Bool.{Bool, true, false}
use mathlib.Core.Path.{◌≡◌, refl, sym, ◌∙◌}
use native.Mathlib.Omega.{arith}
use borrow.Author.Tests.{ne_eqb}
use Rattle.chain.proofs.Chain.{takes, passes, through}
use Rattle.models.specs.declared.ControllerState.TheVariants.{RecoveryRequired}
use Rattle.session.specs.Session.{is_closed, raised, with_controller, marked}
use Rattle.session.specs.declared.{Session.Session}

-- none stays none, and past the greatest number there is none
pub raised_none : raised None ≡ None
unfolding raised
raised_none = refl

pub raised_full : raised (Some (2 ^ 64 - 1)) ≡ None
unfolding raised
raised_full = sym (takes (Option ℕ) _ _ _ _ refl refl)

raise_on : (n m : ℕ) → n + 1 < 2 ^ 64 → m ≡ n + 1 → Some m ≡ raised (Some n)
unfolding raised
raise_on n m h e = passes (Option ℕ) _ _ _ _ (ne_eqb _ _ (λ y. omega arith)) (rw e)

module _ (o : Option ℕ) where
  pub raise_none : o ≡ None → None ≡ raised o
  raise_none e = rw e (sym raised_none)

  pub raise_next : (n : ℕ) (v : Option ℕ) → o ≡ Some n → n < 2 ^ 64 → SomeIff v (n + 1 < 2 ^ 64) (n + 1) → v ≡ raised o
  raise_next n None e h s = rw (e, last) (sym raised_full)
    where
      last : n ≡ 2 ^ 64 - 1
      last = omega (arith, s)
  raise_next n (Some m) e h s = rw e (raise_on n m s.0 s.1)

-- a mark leaves a Closed session as it is, and any other in RecoveryRequired
module _ (s : Session) (b : Bool) (e : b ≡ is_closed s.state) where
  pub mark_closed : b ≡ true → s ≡ marked s
  unfolding marked
  mark_closed t = takes Session _ _ _ _ (through b _ true e t) refl

  pub mark_open : (v : Option ℕ) (next : Session) → b ≡ false → v ≡ raised s.recovery_revision → next ≡ with_controller s RecoveryRequired v
      → next ≡ marked s
  unfolding marked
  mark_open v next t ev en = passes Session _ _ _ _ (through b _ false e t) (en ∙ rw ev)
