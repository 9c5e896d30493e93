use Rattle.std.proofs.Common.{rules, tests}
use Rattle.chain.specs.Chain.{◌if◌else◌}
use Rattle.checks.specs.Completion.{test_code, code_tested}
use Rattle.checks.proofs.completion.test_code.Goals as goal

pub returns-then-completion-is_some : goal.returns-then-completion-is_some
unfolding test_code ◌if◌else◌
returns-then-completion-is_some c = search (rules, tests)

pub returns-then-completion-data_length : goal.returns-then-completion-data_length
unfolding test_code ◌if◌else◌
returns-then-completion-data_length c = search (rules, tests)

pub returns-in_err-code : goal.returns-in_err-code
unfolding test_code code_tested ◌if◌else◌
returns-in_err-code c = search (rules, tests)

pub returns-then-not-is_finished : goal.returns-then-not-is_finished
unfolding test_code code_tested ◌if◌else◌
returns-then-not-is_finished c = search (rules, tests)

pub returns : goal.returns
unfolding test_code code_tested ◌if◌else◌
returns c = search (rules, tests)
