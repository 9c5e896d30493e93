use Rattle.direct.proofs.replies.Laws.{test_valid, test_fault}
use Rattle.direct.proofs.replies.ending_test.Goals as goal

pub returns-in-Ok : goal.returns-in-Ok
returns-in-Ok c = search test_valid

pub returns-in-Err : goal.returns-in-Err
returns-in-Err c = search test_fault
