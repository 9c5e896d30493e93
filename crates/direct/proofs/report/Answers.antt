use Rattle.direct.proofs.Laws.{report_told}
use Rattle.direct.proofs.report.Goals as goal

pub returns : goal.returns
returns c = search report_told
