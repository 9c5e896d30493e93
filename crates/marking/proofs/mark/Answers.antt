use Rattle.marking.proofs.Laws.{damaged_marks, calls_mark}
use Rattle.marking.proofs.mark.Goals as goal

pub returns-then-is_damaged : goal.returns-then-is_damaged
returns-then-is_damaged c = rw c.number.ensures (search damaged_marks)

pub returns : goal.returns
returns c = search calls_mark
