use Rattle.submissions.proofs.plan.Laws.{started_no, started_at}
use Rattle.submissions.proofs.plan.plan_started.Goals as goal

pub returns-in-Err : goal.returns-in-Err
returns-in-Err c = search started_no

pub returns-in-Ok : goal.returns-in-Ok
returns-in-Ok c = search started_at
