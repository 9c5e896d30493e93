use Rattle.direct.proofs.replies.Laws.{poll_said_lem, poll_mild, poll_nothing, polled_in_lem, says_completion, says_error, says_nothing}
use Rattle.rows.specs.Store.{store_of}
use Rattle.direct.proofs.replies.poll_at.Goals as goal

pub end_flight-requires : goal.end_flight-requires
end_flight-requires c = search polled_in_lem

pub returns-then-kind-eq0 : goal.returns-then-kind-eq0
unfolding store_of
returns-then-kind-eq0 c = search (poll_nothing, says_nothing)

pub returns-then-not-is_mild : goal.returns-then-not-is_mild
unfolding store_of
returns-then-not-is_mild c = search (poll_said_lem, says_error)

pub returns-then-kind-eq1 : goal.returns-then-kind-eq1
unfolding store_of
returns-then-kind-eq1 c = search (poll_mild, says_error)

pub pending_at-requires : goal.pending_at-requires
pending_at-requires c = search polled_in_lem

pub returns-then-not-pending_at : goal.returns-then-not-pending_at
unfolding store_of
returns-then-not-pending_at c = search (poll_said_lem, says_completion)

pub returns : goal.returns
unfolding store_of
returns c = search (poll_said_lem, says_completion)
