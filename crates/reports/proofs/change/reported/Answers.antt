use Rattle.reports.proofs.change.Laws.{reported_no, reported_done}
use Rattle.reports.proofs.change.reported.Goals as goal

pub returns-in-Err : goal.returns-in-Err
returns-in-Err c = search reported_no

pub returns-in-Ok : goal.returns-in-Ok
returns-in-Ok c = search reported_done
