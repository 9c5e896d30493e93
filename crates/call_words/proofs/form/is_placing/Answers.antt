use Rattle.std.proofs.Common.{arith}
use Rattle.std.proofs.lemmas.Bool.Decides.{nat_tests}
use Rattle.chain.specs.Chain.{◌if◌else◌}
use Rattle.call_words.specs.Form.{is_placing}
use Rattle.call_words.proofs.form.is_placing.Goals as goal

pub returns-in-0 : goal.returns-in-0
unfolding is_placing ◌if◌else◌
returns-in-0 c = grind (arith, nat_tests)

pub returns-in-1 : goal.returns-in-1
unfolding is_placing ◌if◌else◌
returns-in-1 c = grind (arith, nat_tests)

pub returns-in-2 : goal.returns-in-2
unfolding is_placing ◌if◌else◌
returns-in-2 c = grind (arith, nat_tests)

pub returns-in-3 : goal.returns-in-3
unfolding is_placing ◌if◌else◌
returns-in-3 c = grind (arith, nat_tests)

pub returns-in_default : goal.returns-in_default
unfolding is_placing ◌if◌else◌
returns-in_default c = grind (arith, nat_tests)
