use Rattle.polls.proofs.poll_reply.Laws.{test_valid, test_fault}
use Rattle.polls.proofs.poll_reply.judge_test.Goals as goal

pub returns-in-Ok : goal.returns-in-Ok
returns-in-Ok c = search test_valid

pub returns-in-Err : goal.returns-in-Err
returns-in-Err c = search test_fault
