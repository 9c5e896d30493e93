use Rattle.std.proofs.Common.{rules}
use Rattle.recovery.proofs.entries.Laws.{abort_no, abort_to}
use Rattle.recovery.proofs.entries.abort_one.Goals as goal

pub returns-in_err-change_at : goal.returns-in_err-change_at
returns-in_err-change_at c = abort_no _ _ _ _ c.change_at.ensures.step _ _ c.in_err-change_at.was (search rules)

pub returns : goal.returns
returns c = abort_to _ _ _ _ c.change_at.ensures.step _ c.in_ok-change_at.was
