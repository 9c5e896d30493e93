use Rattle.direct.proofs.replies.Laws.{submit_at, submit_none, submit_other, submit_unfit}
use Rattle.ledger.proofs.in_place.Laws.{accept_inside}
use Rattle.rows.specs.Store.{store_of}
use borrow.Author.Rules.{rules}
use Rattle.direct.proofs.replies.submit_accepted.Goals as goal

pub returns-then-not-is_submitting : goal.returns-then-not-is_submitting
unfolding store_of
returns-then-not-is_submitting c = search submit_other

pub returns-then-not-rows_fit : goal.returns-then-not-rows_fit
unfolding store_of
returns-then-not-rows_fit c = search submit_unfit

pub returns-in_default : goal.returns-in_default
unfolding store_of
returns-in_default c = search submit_none

pub end_flight-requires : goal.end_flight-requires
end_flight-requires c = (search rules, accept_inside _ _ _ _ _ _ c.accept-placed.ensures.step c.in-Ok.is)

pub returns : goal.returns
unfolding store_of
returns c = search submit_at
