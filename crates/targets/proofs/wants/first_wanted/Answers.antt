use Rattle.targets.proofs.wants.Laws.{first_missing, first_on}
use Rattle.targets.proofs.wants.first_wanted.Goals as goal

pub returns-in-Err : goal.returns-in-Err
returns-in-Err c = search first_missing

pub returns-in-Ok : goal.returns-in-Ok
returns-in-Ok c = search first_on
