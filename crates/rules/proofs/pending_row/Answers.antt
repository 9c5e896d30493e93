use mathlib.Core.Path.{refl}
use Rattle.rules.specs.Rules.{pending_row}
use Rattle.rules.proofs.pending_row.Goals as goal

pub returns : goal.returns
unfolding pending_row
returns c = refl
