use Rattle.std.proofs.Common.{rules}
use mathlib.Core.Path.{ap}
use mathlib.Core.Bool.{not}
use Rattle.rows.specs.Store.{store_of}
use Rattle.ledger.proofs.Found.{place_in}
use Rattle.ledger.proofs.Said.{placed_said_lem}
use Rattle.ledger.proofs.in_place.Laws.{placed_none, cancel_no, pending_in, cancel_done}
use Rattle.ledger.proofs.in_place.logical_cancel.Goals as goal

pub returns-in_err-i-clause-step : goal.returns-in_err-i-clause-step
unfolding store_of
returns-in_err-i-clause-step c = search (rules, placed_none)

pub returns-in_err-i-clause-table : goal.returns-in_err-i-clause-table
returns-in_err-i-clause-table c = (placed_said_lem _ _ _ _ _ (returns-in_err-i-clause-step c)).1

pub pending_at-requires : goal.pending_at-requires
pending_at-requires c = place_in _ _ _ c.place.ensures _ c.in_ok-i.was

pub returns-then-not-pending_at-clause-step : goal.returns-then-not-pending_at-clause-step
returns-then-not-pending_at-clause-step c = cancel_no _ _ _ _ c.place.ensures c.in_ok-i.was _ c.pending_at.ensures _ (ap not c.if-not-pending_at.true) c.refuse.ensures

pub returns-then-not-pending_at-clause-table : goal.returns-then-not-pending_at-clause-table
returns-then-not-pending_at-clause-table c = (placed_said_lem _ _ _ _ _ (returns-then-not-pending_at-clause-step c)).1

pub cancel_row-requires : goal.cancel_row-requires
cancel_row-requires c = pending_in _ _ _ _ c.place.ensures c.in_ok-i.was _ c.pending_at.ensures (ap not c.if-not-pending_at.false)

pub returns-clause-step : goal.returns-clause-step
returns-clause-step c = cancel_done _ _ _ _ c.place.ensures c.in_ok-i.was _ c.pending_at.ensures _ (ap not c.if-not-pending_at.false) c.cancel_row.ensures

pub returns-clause-table : goal.returns-clause-table
returns-clause-table c = (placed_said_lem _ _ _ _ _ (returns-clause-step c)).1
