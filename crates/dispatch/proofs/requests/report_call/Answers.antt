use Rattle.dispatch.proofs.requests.Read.{status_writes, answer_writes}
use Rattle.dispatch.proofs.requests.report_call.Goals as goal

pub returns-then-number-eq16 : goal.returns-then-number-eq16
returns-then-number-eq16 c = search status_writes

pub returns : goal.returns
returns c = search answer_writes
