use Rattle.std.proofs.Common.{arith}
use Rattle.std.proofs.lemmas.Bool.Decides.{nat_tests}
use Rattle.chain.specs.Chain.{◌if◌else◌}
use Rattle.call_words.specs.Form.{is_moving}
use Rattle.call_words.proofs.form.is_moving.Goals as goal

pub returns-in-5 : goal.returns-in-5
unfolding is_moving ◌if◌else◌
returns-in-5 c = grind (arith, nat_tests)

pub returns-in-6 : goal.returns-in-6
unfolding is_moving ◌if◌else◌
returns-in-6 c = grind (arith, nat_tests)

pub returns-in_default : goal.returns-in_default
unfolding is_moving ◌if◌else◌
returns-in_default c = grind (arith, nat_tests)
