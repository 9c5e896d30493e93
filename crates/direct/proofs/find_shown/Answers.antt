use Rattle.reports.proofs.status.Laws.{shown_find, shown_none}
use Rattle.direct.proofs.find_shown.Goals as goal

pub returns-then-is_submitting : goal.returns-then-is_submitting
returns-then-is_submitting c = search shown_none

pub returns : goal.returns
returns c = search shown_find
