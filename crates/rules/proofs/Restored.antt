-- A cancel and its withdrawal, in either order, restore a row whose own copy of the flag is its state's. Assumes nothing.
use mathlib.Core.Bool.{Bool, true, false}
use mathlib.Core.Path.{◌≡◌, refl, ap, ◌∙◌}
use Rattle.chain.specs.Chain.{◌if◌else◌}
use Rattle.models.specs.declared.{RequestState.RequestState}
use Rattle.models.specs.declared.RequestState.TheVariants.{Pending}
use Rattle.rows.specs.InPlace.{cancelled}
use Rattle.rows.specs.Table.{restated}
use Rattle.rows.specs.declared.{Row.Row}
use Rattle.rules.specs.Rules.{moved, flagged, while_pending, logical_cancel, cancel_withdrawn, change_row}
use Rattle.rules.specs.declared.{Change.Change}

-- Pending, with the cancel flag b in both its copies
abbrev pub cancel_as : Row → Bool → Bool → Row
cancel_as r late b = flagged r b late b r.timed_out

same_row : (r : Row) (c : Bool) (x : RequestState) → c ≡ r.logical_cancel → x ≡ r.state → restated r c r.timed_out x ≡ r
same_row r c x e f = λ i. restated r (e i) r.timed_out (f i)

module _ (r : Row) (late : Bool) where
  pub cancels : (cancel : Bool) → Pending cancel late ≡ r.state → change_row r Change.LogicalCancel ≡ moved (cancel_as r late true)
  unfolding change_row logical_cancel while_pending cancelled
  cancels cancel state = rw (← state)

  pub withdraws : Pending true late ≡ r.state → change_row r Change.WithdrawCancel ≡ moved (cancel_as r late false)
  unfolding change_row cancel_withdrawn while_pending ◌if◌else◌
  withdraws state = rw (← state)

-- after a cancel of a row that had none, and after a withdrawal of one that it had
module _ (r : Row) (late : Bool) where
  pub withdraw_restores : Pending false late ≡ r.state → false ≡ r.logical_cancel → change_row (cancel_as r late true) Change.WithdrawCancel ≡ moved r
  withdraw_restores state copy = withdraws (cancel_as r late true) late refl ∙ ap moved (same_row r false (Pending false late) copy state)

  pub cancel_restores : Pending true late ≡ r.state → true ≡ r.logical_cancel → change_row (cancel_as r late false) Change.LogicalCancel ≡ moved r
  cancel_restores state copy = cancels (cancel_as r late false) late false refl ∙ ap moved (same_row r true (Pending true late) copy state)
