use Rattle.dispatch.proofs.read.Laws.{report_read, question_read}
use Rattle.dispatch.proofs.read.answer.Goals as goal

pub returns-then-number-le21 : goal.returns-then-number-le21
returns-then-number-le21 c = search report_read

pub returns : goal.returns
returns c = search question_read
