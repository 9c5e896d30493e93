use Rattle.std.proofs.Common.{rules}
use Rattle.rows.specs.Store.{store_of}
use Rattle.ledger.proofs.Found.{place_in}
use Rattle.ledger.proofs.Said.{placed_said_lem}
use Rattle.ledger.proofs.in_place.Laws.{placed_none, accept_in, accept_done, accept_row}
use Rattle.ledger.proofs.in_place.accept.Goals as goal

pub returns-in_err-i-clause-step : goal.returns-in_err-i-clause-step
unfolding store_of
returns-in_err-i-clause-step c = search (rules, placed_none)

pub returns-in_err-i-clause-table : goal.returns-in_err-i-clause-table
returns-in_err-i-clause-table c = (placed_said_lem _ _ _ _ _ (returns-in_err-i-clause-step c)).1

pub pending_at-requires : goal.pending_at-requires
pending_at-requires c = place_in _ _ _ c.place.ensures _ c.in_ok-i.was

pub accept_row-requires : goal.accept_row-requires
accept_row-requires c = accept_in _ _ _ _ c.place.ensures c.in_ok-i.was _ c.pending_at.ensures c.if-pending_at.true

pub returns-then-pending_at-clause-step : goal.returns-then-pending_at-clause-step
returns-then-pending_at-clause-step c = accept_done _ _ _ _ c.place.ensures c.in_ok-i.was _ _ c.accept_row.ensures

pub returns-then-pending_at-clause-table : goal.returns-then-pending_at-clause-table
returns-then-pending_at-clause-table c = (placed_said_lem _ _ _ _ _ (returns-then-pending_at-clause-step c)).1

pub read_row-row-requires : goal.read_row-row-requires
read_row-row-requires c = place_in _ _ _ c.place.ensures _ c.in_ok-i.was

pub write_row-requires : goal.write_row-requires
write_row-requires c = place_in _ _ _ c.place.ensures _ c.in_ok-i.was

pub returns-clause-step : goal.returns-clause-step
returns-clause-step c = accept_row _ _ _ _ c.place.ensures c.in_ok-i.was _ _ _ c.read_row-row.ensures c.write_row.ensures

pub returns-clause-table : goal.returns-clause-table
returns-clause-table c = (placed_said_lem _ _ _ _ _ (returns-clause-step c)).1
