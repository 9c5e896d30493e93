use Rattle.submissions.proofs.plan.Laws.{plan_target_is}
use Rattle.submissions.proofs.plan.plan_target.Goals as goal

pub returns : goal.returns
returns c = search plan_target_is
