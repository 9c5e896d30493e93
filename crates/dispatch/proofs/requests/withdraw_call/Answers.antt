use Rattle.dispatch.proofs.requests.Change.{withdraw_steps}
use Rattle.dispatch.proofs.requests.withdraw_call.Goals as goal

pub returns : goal.returns
returns c = search withdraw_steps
