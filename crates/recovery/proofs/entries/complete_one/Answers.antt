use Rattle.std.proofs.Common.{rules, ◌≡◌, ap, ◌∙◌, Err}
use Rattle.checks.specs.declared.{completion.CompletionFault.CompletionFault}
use Rattle.rows.specs.Store.{store_of}
use Rattle.recovery.proofs.entries.Laws.{one_missing, one_invalid, one_valid}
use Rattle.recovery.proofs.entries.complete_one.Goals as goal

pub returns-in-Err-MissingLength : goal.returns-in-Err-MissingLength
unfolding store_of
returns-in-Err-MissingLength c =
    let fault : c.in-Err-MissingLength.field-0 ≡ CompletionFault.MissingLength = search (rules, c.in-Err-MissingLength.field-0-is) in
    let test : c.test_completion-test.result ≡ Err CompletionFault.MissingLength = c.in-Err-MissingLength.is ∙ ap Err fault in
    search (one_missing, test)

pub returns-in-Err-Invalid : goal.returns-in-Err-Invalid
unfolding store_of
returns-in-Err-Invalid c =
    let fault : c.in-Err-Invalid.field-0 ≡ CompletionFault.Invalid = search (rules, c.in-Err-Invalid.field-0-is) in
    let test : c.test_completion-test.result ≡ Err CompletionFault.Invalid = c.in-Err-Invalid.is ∙ ap Err fault in
    search (one_invalid, test)

pub returns-in-Ok : goal.returns-in-Ok
unfolding store_of
returns-in-Ok c = search one_valid
