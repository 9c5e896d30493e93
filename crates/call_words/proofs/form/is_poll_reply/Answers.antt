use Rattle.std.proofs.Common.{arith}
use Rattle.std.proofs.lemmas.Bool.Decides.{nat_tests}
use Rattle.chain.specs.Chain.{◌if◌else◌}
use Rattle.chain.proofs.Chain.{and_false}
use Rattle.call_words.specs.Form.{is_poll_reply}
use Rattle.call_words.proofs.form.is_poll_reply.Goals as goal

pub returns-in-0 : goal.returns-in-0
unfolding is_poll_reply ◌if◌else◌
returns-in-0 c = grind (arith, nat_tests)

pub returns-in-1 : goal.returns-in-1
unfolding is_poll_reply ◌if◌else◌
returns-in-1 c = grind (arith, nat_tests)

pub returns-in-2 : goal.returns-in-2
unfolding is_poll_reply ◌if◌else◌
returns-in-2 c = grind (arith, nat_tests)

pub returns-in_default : goal.returns-in_default
unfolding is_poll_reply ◌if◌else◌
returns-in_default c = grind (arith, nat_tests, and_false)
