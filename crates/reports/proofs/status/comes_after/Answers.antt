use Rattle.models.proofs.Ids.{request_before-lt}
use Rattle.reports.proofs.status.Laws.{after_some}
use Rattle.reports.proofs.status.comes_after.Goals as goal

pub returns-in-Some : goal.returns-in-Some
returns-in-Some c = search (request_before-lt, after_some)
