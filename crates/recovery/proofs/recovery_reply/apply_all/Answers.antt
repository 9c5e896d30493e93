use Rattle.std.proofs.Common.{rules}
use Rattle.recovery.proofs.recovery_reply.Laws.{apply_stop, apply_on, rest_below}
use Rattle.recovery.proofs.recovery_reply.apply_all.Goals as goal

pub returns-in_err-complete_all : goal.returns-in_err-complete_all
returns-in_err-complete_all c = apply_stop _ _ _ _ _ _ _ _ _ c.complete_all.ensures _ _ c.in_err-complete_all.was (search rules)

pub abort_all-requires : goal.abort_all-requires
abort_all-requires c = search (rest_below, c.requires.2, c.rows-1)

pub returns : goal.returns
returns c = apply_on _ _ _ _ _ _ _ _ _ c.complete_all.ensures _ _ c.in_ok-complete_all.was c.abort_all.ensures
