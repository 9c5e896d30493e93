-- What only a Pending row takes, by its state: how a rule's returns are read. Assumes nothing.
use Rattle.std.specs.Prelude.{Option, Result}
use Prim.Native.Nat.{ℕ}
use mathlib.Core.Path.{◌≡◌, refl}
use mathlib.Core.Bool.{Bool, true, false, not}
use Rattle.chain.proofs.Chain.{takes, passes}
use Rattle.models.specs.declared.{OperationError.OperationError, Refusal.Refusal, RequestState.RequestState}
use Rattle.models.specs.declared.RequestState.TheVariants.{Pending, Completed, Failed, Aborted}
use Rattle.rows.specs.InPlace.{cancelled, timed_out, completed_row}
use Rattle.rows.specs.declared.{Row.Row}
use Rattle.rules.specs.Rules.{refused_by, moved, with_state, flagged, while_pending, logical_cancel, cancel_withdrawn, time_out, completed, failed}
use Rattle.rules.specs.declared.{Step.Step}

pub settled : (s next : Result Step Refusal) (x : RequestState) → ((cancel late : Bool) → x ≡ Pending cancel late → ⊥) → s ≡ refused_by 41 → s ≡ while_pending x next
unfolding while_pending
settled s next (Pending cancel late) t e = absurd (t cancel late refl)
settled s next (Completed actual code cancel) t e = e
settled s next (Failed error code quiescent) t e = e
settled s next Aborted t e = e

-- a Pending row, with the flags cancel and late in its state
module _ (s : Result Step Refusal) (r : Row) (cancel late : Bool) (p : r.state ≡ Pending cancel late) where
  pub cancel_to : s ≡ moved (flagged r true late true r.timed_out) → s ≡ logical_cancel r
  unfolding logical_cancel while_pending cancelled
  cancel_to e = rw p e

  pub timeout_to : s ≡ moved (flagged r cancel true r.logical_cancel true) → s ≡ time_out r
  unfolding time_out while_pending timed_out
  timeout_to e = rw p e

  pub complete_to : (actual code : ℕ) → s ≡ moved (with_state r (Completed actual code cancel)) → s ≡ completed r actual code
  unfolding completed while_pending completed_row
  complete_to actual code e = rw p e

  pub fail_to : (error : OperationError) (code : Option ℕ) (quiescent : Bool) → s ≡ moved (with_state r (Failed error code quiescent))
      → s ≡ failed r error code quiescent
  unfolding failed while_pending
  fail_to error code quiescent e = rw p e

  pub withdraw_none : not cancel ≡ true → s ≡ refused_by 59 → s ≡ cancel_withdrawn r
  unfolding cancel_withdrawn while_pending
  withdraw_none t e = rw p (takes (Result Step Refusal) _ _ _ _ t e)

  pub withdraw_to : not cancel ≡ false → s ≡ moved (flagged r false late false r.timed_out) → s ≡ cancel_withdrawn r
  unfolding cancel_withdrawn while_pending
  withdraw_to t e = rw p (passes (Result Step Refusal) _ _ _ _ t e)
