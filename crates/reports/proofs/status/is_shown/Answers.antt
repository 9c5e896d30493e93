use Rattle.reports.proofs.status.Laws.{shown_free, shown_used}
use Rattle.reports.proofs.status.is_shown.Goals as goal

pub returns-then-not-used_at : goal.returns-then-not-used_at
returns-then-not-used_at c = search shown_free

pub returns : goal.returns
returns c = search shown_used
