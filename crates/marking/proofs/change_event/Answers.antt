use Rattle.marking.proofs.Laws.{cancel_marks, timeout_marks, reclaim_marks}
use Rattle.marking.proofs.change_event.Goals as goal

pub returns-then-e-eq2 : goal.returns-then-e-eq2
returns-then-e-eq2 c = search cancel_marks

pub returns-then-e-eq3 : goal.returns-then-e-eq3
returns-then-e-eq3 c = search timeout_marks

pub returns : goal.returns
returns c = search reclaim_marks
