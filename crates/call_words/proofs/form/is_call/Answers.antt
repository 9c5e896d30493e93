use Rattle.std.proofs.Common.{arith}
use Rattle.std.proofs.lemmas.Bool.Decides.{nat_tests}
use Rattle.chain.specs.Chain.{◌if◌else◌}
use Rattle.call_words.specs.Form.{is_call}
use Rattle.call_words.proofs.form.is_call.Goals as goal

pub returns-in-0-to-4 : goal.returns-in-0-to-4
unfolding is_call ◌if◌else◌
returns-in-0-to-4 c = grind (arith, nat_tests)

pub returns-in-5-to-7 : goal.returns-in-5-to-7
unfolding is_call ◌if◌else◌
returns-in-5-to-7 c = grind (arith, nat_tests)

pub returns-in-8 : goal.returns-in-8
unfolding is_call ◌if◌else◌
returns-in-8 c = grind (arith, nat_tests)

pub returns-in-10-to-12 : goal.returns-in-10-to-12
unfolding is_call ◌if◌else◌
returns-in-10-to-12 c = grind (arith, nat_tests)

pub returns-in-13-to-15 : goal.returns-in-13-to-15
unfolding is_call ◌if◌else◌
returns-in-13-to-15 c = grind (arith, nat_tests)

pub returns-in-16-to-21 : goal.returns-in-16-to-21
unfolding is_call ◌if◌else◌
returns-in-16-to-21 c = grind (arith, nat_tests)

pub returns-in-22-to-24 : goal.returns-in-22-to-24
unfolding is_call ◌if◌else◌
returns-in-22-to-24 c = grind (arith, nat_tests)

pub returns-in_default : goal.returns-in_default
unfolding is_call ◌if◌else◌
returns-in_default c = grind (arith, nat_tests)
