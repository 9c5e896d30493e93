use Rattle.direct.proofs.replies.Laws.{poll_completed, poll_failed, polled_in_lem, polled_room}
use Rattle.rows.specs.Store.{store_of}
use Rattle.direct.proofs.replies.poll_completion.Goals as goal

pub requested_length_at-requested-requires : goal.requested_length_at-requested-requires
requested_length_at-requested-requires c = search polled_in_lem

pub complete-requires : goal.complete-requires
complete-requires c = search (polled_in_lem, polled_room)

pub fail-requires : goal.fail-requires
fail-requires c = search polled_in_lem

pub returns-in-Completed : goal.returns-in-Completed
unfolding store_of
returns-in-Completed c = search poll_completed

pub returns-in-Failed : goal.returns-in-Failed
unfolding store_of
returns-in-Failed c = search poll_failed
