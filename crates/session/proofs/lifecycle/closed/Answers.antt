use Rattle.session.proofs.Outcomes.{closed_pass, closed_failed}
use Rattle.session.proofs.lifecycle.closed.Goals as goal

pub returns-in-Some : goal.returns-in-Some
returns-in-Some c = search closed_failed

pub returns-in-None : goal.returns-in-None
returns-in-None c = search closed_pass
