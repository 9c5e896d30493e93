use Rattle.submissions.proofs.submit.Laws.{target_is}
use Rattle.submissions.proofs.submit.submit_target.Goals as goal

pub returns : goal.returns
returns c = search (target_is, c.begin_target-started.ensures, c.is_some.ensures, c.submitted.ensures)
