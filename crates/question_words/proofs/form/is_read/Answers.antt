use Rattle.std.proofs.Common.{arith}
use Rattle.std.proofs.lemmas.Bool.Decides.{nat_tests}
use Rattle.chain.specs.Chain.{◌if◌else◌}
use Rattle.question_words.specs.Form.{is_read}
use Rattle.question_words.proofs.form.is_read.Goals as goal

pub returns-in-16-to-21 : goal.returns-in-16-to-21
unfolding is_read ◌if◌else◌
returns-in-16-to-21 c = grind (arith, nat_tests)

pub returns-in_default : goal.returns-in_default
unfolding is_read ◌if◌else◌
returns-in_default c = grind (arith, nat_tests)
