use Rattle.polls.proofs.poll.Laws.{row_told, row_early, row_asked}
use Rattle.polls.proofs.poll.poll_row.Goals as goal

pub returns-then-not-is_pending : goal.returns-then-not-is_pending
returns-then-not-is_pending c = search row_told

pub returns-then-not-is_initialized : goal.returns-then-not-is_initialized
returns-then-not-is_initialized c = search row_early

pub returns : goal.returns
returns c = search row_asked
