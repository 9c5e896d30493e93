use Rattle.marking.proofs.Laws.{abort_refused, abort_begun}
use Rattle.marking.proofs.abort_event.Goals as goal

pub returns-in-Err : goal.returns-in-Err
returns-in-Err c = search abort_refused

pub returns-in-Ok : goal.returns-in-Ok
returns-in-Ok c = search (abort_begun, c.requires, c.id_of-id.ensures, c.abort_request-begun.ensures)
