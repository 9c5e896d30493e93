use Rattle.session.proofs.Outcomes.{acquired_pass, acquired_kept, acquired_left}
use Rattle.session.proofs.lifecycle.acquired.Goals as goal

pub returns-then-failure : goal.returns-then-failure
returns-then-failure c = search acquired_kept

pub returns-in-Ok : goal.returns-in-Ok
returns-in-Ok c = search acquired_pass

pub returns-else-failure : goal.returns-else-failure
returns-else-failure c = search acquired_left
