use Rattle.scope.proofs.tokens.Laws.{near_is}
use Rattle.scope.proofs.tokens.slot_near.Goals as goal

pub returns-then-eq : goal.returns-then-eq
returns-then-eq c = near_is _ _ _ _ _ _ c.get.ensures.lookup.0 c.get.ensures.lookup.1 c.eq.ensures c.requires c.if-rising.true c.if-eq.true
