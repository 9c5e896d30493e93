use Rattle.std.proofs.Common.{rules}
use Rattle.rows.specs.Store.{store_of}
use Rattle.reports.proofs.Said.{part_said_lem}
use Rattle.reports.proofs.status.Laws.{shown_in, part_small, told, untold, untold_by, part_unfit, part_none, part_at}
use Rattle.reports.proofs.status.completed_part.Goals as goal

pub returns-in_err-memory_sized-clause-step : goal.returns-in_err-memory_sized-clause-step
unfolding store_of
returns-in_err-memory_sized-clause-step c = search (rules, part_unfit)

pub returns-in_err-memory_sized-clause-table : goal.returns-in_err-memory_sized-clause-table
returns-in_err-memory_sized-clause-table c = (part_said_lem _ _ _ _ _ (returns-in_err-memory_sized-clause-step c)).1

pub returns-in_err-i-clause-step : goal.returns-in_err-i-clause-step
unfolding store_of
returns-in_err-i-clause-step c = search (rules, part_none, untold, untold_by)

pub returns-in_err-i-clause-table : goal.returns-in_err-i-clause-table
returns-in_err-i-clause-table c = (part_said_lem _ _ _ _ _ (returns-in_err-i-clause-step c)).1

pub read_row-row-requires : goal.read_row-row-requires
read_row-row-requires c = search (rules, shown_in, told)

pub place_of-place-requires : goal.place_of-place-requires
place_of-place-requires c = part_small _ _ _ _ c.memory_sized.ensures c.in_ok-memory_sized.was _ (shown_in _ _ _ _ _ c.find_shown-found.ensures (told _ _ _ c.ok_or.ensures.ok_part c.in_ok-i.was))

pub returns-clause-step : goal.returns-clause-step
unfolding store_of
returns-clause-step c =
    part_at _ _ _ _ _ c.memory_sized.ensures c.in_ok-memory_sized.was _ c.find_shown-found.ensures _ _ _ _ _ (told _ _ _ c.ok_or.ensures.ok_part c.in_ok-i.was)
    c.read_row-row.ensures c.place_of-place.ensures c.completed_length.ensures c.min.ensures

pub returns-clause-table : goal.returns-clause-table
returns-clause-table c = (part_said_lem _ _ _ _ _ (returns-clause-step c)).1
