use Rattle.marking.proofs.Laws.{poll_replied}
use Rattle.marking.proofs.reply_to_poll.Goals as goal

pub returns : goal.returns
returns c = search poll_replied
