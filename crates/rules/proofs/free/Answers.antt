use Rattle.rules.specs.Rules.{freed}
use Rattle.rules.proofs.free.Goals as goal

pub returns : goal.returns
unfolding freed
returns c = rw (c.empty_row.ensures, c.report_of.ensures)
