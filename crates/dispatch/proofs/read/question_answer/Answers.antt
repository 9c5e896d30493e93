use Rattle.std.proofs.Common.{◌≡◌, arith}
use Rattle.dispatch.proofs.read.Laws.{status_said, report_said_lem, submit_said_lem, plan_said_lem}
use Rattle.dispatch.proofs.read.question_answer.Goals as goal

pub returns-in-25 : goal.returns-in-25
returns-in-25 c = search status_said

pub returns-in-26 : goal.returns-in-26
returns-in-26 c =
    let n25 : c.args.number ≡ 25 → ⊥ = λ e. omega arith in
    search (report_said_lem, n25)

pub returns-in-27 : goal.returns-in-27
returns-in-27 c =
    let n25 : c.args.number ≡ 25 → ⊥ = λ e. omega arith in
    let n26 : c.args.number ≡ 26 → ⊥ = λ e. omega arith in
    search (submit_said_lem, n25, n26)

pub returns-in_default : goal.returns-in_default
returns-in_default c = search plan_said_lem
