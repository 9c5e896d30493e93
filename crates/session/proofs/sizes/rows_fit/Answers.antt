use Rattle.std.proofs.Common.{rules, tests}
use Rattle.session.specs.Sizes.{rows_fit}
use Rattle.session.proofs.sizes.rows_fit.Goals as goal

pub returns-then-is_sized : goal.returns-then-is_sized
unfolding rows_fit
returns-then-is_sized c = search (rules, tests)

pub returns-else-is_sized : goal.returns-else-is_sized
unfolding rows_fit
returns-else-is_sized c = search (rules, tests)
