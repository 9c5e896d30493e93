use Rattle.ledger.proofs.in_place.Laws.{still_in}
use Rattle.direct.proofs.replies.Laws.{complete_told}
use borrow.Author.Rules.{rules}
use Rattle.direct.proofs.replies.complete.Goals as goal

pub end_flight-requires : goal.end_flight-requires
end_flight-requires c = (search rules, still_in _ _ _ _ (search rules) c.complete_row.ensures)

pub returns : goal.returns
returns c = search complete_told
