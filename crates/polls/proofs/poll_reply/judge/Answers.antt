use Rattle.polls.proofs.poll_reply.Laws.{judged-error, judged_test_lem}
use Rattle.polls.proofs.poll_reply.judge.Goals as goal

pub returns-in-Some : goal.returns-in-Some
returns-in-Some c = search judged-error

pub returns-in-None : goal.returns-in-None
returns-in-None c = search judged_test_lem
