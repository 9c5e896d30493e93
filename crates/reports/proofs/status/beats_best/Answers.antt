use Rattle.models.proofs.Ids.{request_before-lt}
use Rattle.reports.proofs.status.Laws.{beats_at}
use Rattle.reports.proofs.status.beats_best.Goals as goal

pub returns-in-Some : goal.returns-in-Some
returns-in-Some c = search (request_before-lt, beats_at)
