use Rattle.submissions.proofs.submit.Laws.{submitted_no, submitted_at}
use Rattle.submissions.proofs.submit.submitted.Goals as goal

pub returns-in-Err : goal.returns-in-Err
returns-in-Err c = search submitted_no

pub returns-in-Ok : goal.returns-in-Ok
returns-in-Ok c = search submitted_at
