use Rattle.std.proofs.Common.{arith}
use Rattle.std.proofs.lemmas.Bool.Decides.{nat_tests}
use Rattle.chain.specs.Chain.{◌if◌else◌}
use Rattle.question_words.specs.Form.{is_question}
use Rattle.question_words.proofs.form.is_question.Goals as goal

pub returns-in-25 : goal.returns-in-25
unfolding is_question ◌if◌else◌
returns-in-25 c = grind (arith, nat_tests)

pub returns-in-26 : goal.returns-in-26
unfolding is_question ◌if◌else◌
returns-in-26 c = grind (arith, nat_tests)

pub returns-in-27 : goal.returns-in-27
unfolding is_question ◌if◌else◌
returns-in-27 c = grind (arith, nat_tests)

pub returns-in-28 : goal.returns-in-28
unfolding is_question ◌if◌else◌
returns-in-28 c = grind (arith, nat_tests)

pub returns-in_default : goal.returns-in_default
unfolding is_question ◌if◌else◌
returns-in_default c = grind (arith, nat_tests)
