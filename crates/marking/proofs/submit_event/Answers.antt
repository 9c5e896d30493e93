use Rattle.marking.proofs.Laws.{submit_refused_lem, submit_begun}
use Rattle.marking.proofs.submit_event.Goals as goal

pub returns-in-Err : goal.returns-in-Err
returns-in-Err c = search submit_refused_lem

pub returns-in-Ok : goal.returns-in-Ok
returns-in-Ok c = search (submit_begun, c.requires, c.begin_submission-done.ensures)
