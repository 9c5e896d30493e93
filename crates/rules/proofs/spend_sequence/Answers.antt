use Rattle.std.proofs.Common.{rules, tests}
use Rattle.chain.specs.Chain.{◌if◌else◌}
use Rattle.rules.specs.Rules.{spend_sequence}
use Rattle.rules.proofs.Said.{spend_said}
use Rattle.rules.proofs.spend_sequence.Goals as goal

pub returns-clause-step : goal.returns-clause-step
unfolding spend_sequence ◌if◌else◌
returns-clause-step c = search (rules, tests)

pub returns-clause-table : goal.returns-clause-table
returns-clause-table c = (spend_said c.args.next _ (returns-clause-step c)).1
