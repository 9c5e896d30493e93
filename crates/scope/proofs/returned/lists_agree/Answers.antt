use Rattle.scope.proofs.returned.Laws.{agree_not, agree_sum}
use Rattle.scope.proofs.returned.lists_agree.Goals as goal

pub returns-then-m-n : goal.returns-then-m-n
returns-then-m-n c = search agree_not

pub returns : goal.returns
returns c = search agree_sum
