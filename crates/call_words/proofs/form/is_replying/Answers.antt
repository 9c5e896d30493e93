use Rattle.std.proofs.Common.{arith}
use Rattle.std.proofs.lemmas.Bool.Decides.{nat_tests}
use Rattle.chain.specs.Chain.{◌if◌else◌}
use Rattle.call_words.specs.Form.{is_replying}
use Rattle.call_words.proofs.form.is_replying.Goals as goal

pub returns-in-10 : goal.returns-in-10
unfolding is_replying ◌if◌else◌
returns-in-10 c = grind (arith, nat_tests)

pub returns-in-11 : goal.returns-in-11
unfolding is_replying ◌if◌else◌
returns-in-11 c = grind (arith, nat_tests)

pub returns-in_default : goal.returns-in_default
unfolding is_replying ◌if◌else◌
returns-in_default c = grind (arith, nat_tests)
