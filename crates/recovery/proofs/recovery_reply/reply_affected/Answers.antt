use Rattle.recovery.proofs.recovery_reply.Laws.{scope_46, scope_on}
use Rattle.scope.proofs.tokens.Laws.{scope_few}
use Rattle.recovery.proofs.recovery_reply.reply_affected.Goals as goal

pub returns-then-not-in_scope : goal.returns-then-not-in_scope
returns-then-not-in_scope c = search scope_46

pub settle-requires : goal.settle-requires
settle-requires c = (c.requires.0, c.requires.1, search (scope_few, c.requires.2))

pub returns : goal.returns
returns c = search scope_on
