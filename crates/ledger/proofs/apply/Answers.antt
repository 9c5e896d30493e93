use Rattle.std.proofs.Common.{rules}
use Rattle.ledger.proofs.Found.{place_in}
use Rattle.ledger.proofs.Changes.{apply_none, apply_at_lem}
use Rattle.rows.specs.Store.{store_of}
use Rattle.ledger.proofs.Said.{apply_said}
use Rattle.ledger.proofs.apply.Goals as goal

pub returns-in_err-i-clause-step : goal.returns-in_err-i-clause-step
unfolding store_of
returns-in_err-i-clause-step c = search (rules, apply_none)

pub returns-in_err-i-clause-table : goal.returns-in_err-i-clause-table
returns-in_err-i-clause-table c = (apply_said _ _ _ _ _ (returns-in_err-i-clause-step c)).1

pub change_at-requires : goal.change_at-requires
change_at-requires c = place_in _ _ _ c.place.ensures _ c.in_ok-i.was

pub returns-clause-step : goal.returns-clause-step
unfolding store_of
returns-clause-step c = apply_at_lem _ _ _ _ c.place.ensures _ _ c.in_ok-i.was c.change_at.ensures.step

pub returns-clause-table : goal.returns-clause-table
returns-clause-table c = (apply_said _ _ _ _ _ (returns-clause-step c)).1
