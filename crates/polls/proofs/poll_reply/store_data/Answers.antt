use Rattle.polls.proofs.poll_reply.Laws.{data_left, data_stored}
use Rattle.polls.proofs.poll_reply.store_data.Goals as goal

pub returns-then-not-stored : goal.returns-then-not-stored
returns-then-not-stored c = search data_left

pub returns : goal.returns
returns c = search data_stored
