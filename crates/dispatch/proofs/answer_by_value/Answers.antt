use Rattle.dispatch.proofs.Dispatch.{answer_done}
use Rattle.dispatch.proofs.answer_by_value.Goals as goal

pub returns : goal.returns
returns c = search answer_done
