use Rattle.paper_session.proofs.Laws.{slot_placed}
use Rattle.paper_session.proofs.place_slot.Goals as goal

pub returns : goal.returns
returns c = search slot_placed
