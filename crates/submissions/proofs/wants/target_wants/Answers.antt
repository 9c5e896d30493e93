use Rattle.submissions.proofs.wants.Laws.{target_on}
use Rattle.submissions.proofs.wants.target_wants.Goals as goal

pub returns : goal.returns
returns c = search target_on
