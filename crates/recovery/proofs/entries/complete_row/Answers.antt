use Rattle.std.proofs.Common.{rules}
use Rattle.recovery.proofs.entries.Laws.{row_room, completed_no, completed_to}
use Rattle.recovery.proofs.entries.complete_row.Goals as goal

pub returns-in_err-change_at : goal.returns-in_err-change_at
returns-in_err-change_at c = completed_no _ _ _ _ _ _ _ c.change_at.ensures.step _ _ c.in_err-change_at.was (search rules)

pub put_data-requires : goal.put_data-requires
put_data-requires c = search row_room

pub returns : goal.returns
returns c = completed_to _ _ _ _ _ _ _ c.change_at.ensures.step _ _ c.in_ok-change_at.was c.put_data.ensures
