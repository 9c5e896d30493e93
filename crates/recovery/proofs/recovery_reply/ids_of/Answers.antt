use borrow.Author.Rules.{rules}
use Rattle.chain.proofs.Listed.{list_on, list_end}
use Rattle.recovery.proofs.recovery_reply.ids_of.Goals as goal

pub loop-k-preserved : goal.loop-k-preserved
loop-k-preserved c = (search rules, search rules, search list_on)

pub returns : goal.returns
returns c = search list_end
