use Rattle.submissions.proofs.begin.Laws.{target_stop, target_on}
use Rattle.submissions.proofs.begin.begin_target.Goals as goal

pub returns-in-Err : goal.returns-in-Err
returns-in-Err c = search target_stop

pub returns-in-Ok : goal.returns-in-Ok
returns-in-Ok c = search target_on
