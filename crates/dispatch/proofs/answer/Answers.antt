use Rattle.std.proofs.Common.{◌≡◌, ◌≤◌, ◌<◌, true, false, arith, rules}
use Rattle.std.proofs.lemmas.Bool.Decides.{nat_tests}
use Rattle.dispatch.specs.Apply.{is_other}
use Rattle.dispatch.proofs.Dispatch.{other_is, poll_ran, change_ran, report_ran}
use Rattle.dispatch.proofs.answer.Goals as goal

pub returns-in-11 : goal.returns-in-11
returns-in-11 c = search poll_ran

pub returns-in-13-to-15 : goal.returns-in-13-to-15
returns-in-13-to-15 c =
    let n = c.word_at-number.result in
    let own : is_other n ≡ false = grind (arith, nat_tests) in
    let n11 : n ≡ 11 → ⊥ = λ e. omega arith in
    let upto15 : n ≤ 15 = omega arith in
    search (change_ran, own, n11, upto15)

pub returns-in-16-to-21 : goal.returns-in-16-to-21
returns-in-16-to-21 c =
    let n = c.word_at-number.result in
    let own : is_other n ≡ false = grind (arith, nat_tests) in
    let past15 : 15 < n = omega arith in
    search (report_ran, own, past15)

pub answer_other-requires : goal.answer_other-requires
answer_other-requires c =
    let n = c.word_at-number.result in
    let other : is_other n ≡ true = grind (arith, nat_tests) in
    (search rules, other_is n c.args.call.now c.word_at-number.ensures other)
