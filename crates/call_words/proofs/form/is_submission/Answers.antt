use Rattle.std.proofs.Common.{arith}
use Rattle.std.proofs.lemmas.Bool.Decides.{nat_tests}
use Rattle.chain.specs.Chain.{◌if◌else◌}
use Rattle.call_words.specs.Form.{is_submission}
use Rattle.call_words.proofs.form.is_submission.Goals as goal

pub returns-in-8 : goal.returns-in-8
unfolding is_submission ◌if◌else◌
returns-in-8 c = grind (arith, nat_tests)

pub returns-in_default : goal.returns-in_default
unfolding is_submission ◌if◌else◌
returns-in_default c = grind (arith, nat_tests)
