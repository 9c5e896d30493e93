use Rattle.std.proofs.Common.{arith}
use Rattle.std.proofs.lemmas.Bool.Decides.{nat_tests}
use Rattle.chain.specs.Chain.{◌if◌else◌}
use Rattle.call_words.specs.Form.{is_recovery_call}
use Rattle.call_words.proofs.form.is_recovery_call.Goals as goal

pub returns-in-22 : goal.returns-in-22
unfolding is_recovery_call ◌if◌else◌
returns-in-22 c = grind (arith, nat_tests)

pub returns-in-23 : goal.returns-in-23
unfolding is_recovery_call ◌if◌else◌
returns-in-23 c = grind (arith, nat_tests)

pub returns-in_default : goal.returns-in_default
unfolding is_recovery_call ◌if◌else◌
returns-in_default c = grind (arith, nat_tests)
