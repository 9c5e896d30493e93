use Rattle.std.proofs.Common.{rules, tests}
use Rattle.session.specs.Sizes.{area_fits}
use Rattle.session.proofs.sizes.area_fits.Goals as goal

pub returns-then-is_sized : goal.returns-then-is_sized
unfolding area_fits
returns-then-is_sized c = search (rules, tests)

pub returns-else-is_sized : goal.returns-else-is_sized
unfolding area_fits
returns-else-is_sized c = search (rules, tests)
