use borrow.Author.Rules.{rules}
use Rattle.recovery.proofs.recovery_reply.Laws.{own_few, affected_places, done_is}
use Rattle.recovery.proofs.recovery_reply.reply_done.Goals as goal

pub reply_affected-requires : goal.reply_affected-requires
reply_affected-requires c = (search affected_places, search rules, search own_few)

pub returns : goal.returns
returns c = search done_is
