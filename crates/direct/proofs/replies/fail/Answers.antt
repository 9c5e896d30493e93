use Rattle.ledger.proofs.in_place.Laws.{still_in}
use Rattle.direct.proofs.replies.Laws.{fail_told}
use Rattle.direct.proofs.replies.fail.Goals as goal

pub end_flight-requires : goal.end_flight-requires
end_flight-requires c = search still_in

pub returns : goal.returns
returns c = search fail_told
