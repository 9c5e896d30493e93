use Rattle.std.proofs.Common.{arith}
use Rattle.std.proofs.lemmas.Bool.Decides.{nat_tests}
use Rattle.chain.specs.Chain.{◌if◌else◌}
use Rattle.call_words.specs.Form.{is_reporting}
use Rattle.call_words.proofs.form.is_reporting.Goals as goal

pub returns-in-16 : goal.returns-in-16
unfolding is_reporting ◌if◌else◌
returns-in-16 c = grind (arith, nat_tests)

pub returns-in-17 : goal.returns-in-17
unfolding is_reporting ◌if◌else◌
returns-in-17 c = grind (arith, nat_tests)

pub returns-in-18 : goal.returns-in-18
unfolding is_reporting ◌if◌else◌
returns-in-18 c = grind (arith, nat_tests)

pub returns-in-19 : goal.returns-in-19
unfolding is_reporting ◌if◌else◌
returns-in-19 c = grind (arith, nat_tests)

pub returns-in_default : goal.returns-in_default
unfolding is_reporting ◌if◌else◌
returns-in_default c = grind (arith, nat_tests)
