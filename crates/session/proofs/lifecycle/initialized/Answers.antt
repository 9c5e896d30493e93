use Rattle.session.proofs.Outcomes.{initialized_pass, initialized_failed}
use Rattle.session.proofs.lifecycle.initialized.Goals as goal

pub returns-in-None : goal.returns-in-None
returns-in-None c = search initialized_pass

pub returns-in-Some : goal.returns-in-Some
returns-in-Some c = search initialized_failed
