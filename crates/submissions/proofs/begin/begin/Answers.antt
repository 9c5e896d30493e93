use Rattle.submissions.proofs.begin.Laws.{begin_stop, begin_on}
use Rattle.submissions.proofs.begin.begin.Goals as goal

pub returns-in-Err : goal.returns-in-Err
returns-in-Err c = search begin_stop

pub returns-in-Ok : goal.returns-in-Ok
returns-in-Ok c = search (begin_on, c.spend_sequence-spent.ensures.step)
