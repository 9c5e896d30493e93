use Rattle.std.proofs.Common.{rules}
use Rattle.rows.specs.Store.{store_of}
use Rattle.ledger.proofs.Found.{place_in}
use Rattle.ledger.proofs.Said.{reclaim_said}
use Rattle.ledger.proofs.in_place.Laws.{reclaim_none, reclaim_no, reclaim_at}
use Rattle.ledger.proofs.in_place.reclaimable.Goals as goal

pub returns-in_err-i-clause-step : goal.returns-in_err-i-clause-step
unfolding store_of
returns-in_err-i-clause-step c = search (rules, reclaim_none)

pub returns-in_err-i-clause-table : goal.returns-in_err-i-clause-table
returns-in_err-i-clause-table c = (reclaim_said _ _ _ _ (returns-in_err-i-clause-step c)).1

pub held_at-requires : goal.held_at-requires
held_at-requires c = place_in _ _ _ c.place.ensures _ c.in_ok-i.was

pub returns-then-held_at-clause-step : goal.returns-then-held_at-clause-step
returns-then-held_at-clause-step c = reclaim_no _ _ _ _ c.place.ensures c.in_ok-i.was _ c.held_at.ensures _ c.if-held_at.true c.refuse.ensures

pub returns-then-held_at-clause-table : goal.returns-then-held_at-clause-table
returns-then-held_at-clause-table c = (reclaim_said _ _ _ _ (returns-then-held_at-clause-step c)).1

pub returns-clause-step : goal.returns-clause-step
returns-clause-step c = reclaim_at _ _ _ _ c.place.ensures c.in_ok-i.was _ c.held_at.ensures c.if-held_at.false

pub returns-clause-table : goal.returns-clause-table
returns-clause-table c = (reclaim_said _ _ _ _ (returns-clause-step c)).1
