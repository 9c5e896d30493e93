use Rattle.std.proofs.Common.{◌≡◌, arith}
use Rattle.dispatch.proofs.requests.Read.{reports_step, count_step, bytes_step, held_count_step, held_bytes_step}
use Rattle.dispatch.proofs.requests.report_answer.Goals as goal

pub returns-in-17 : goal.returns-in-17
returns-in-17 c = search reports_step

pub returns-in-18 : goal.returns-in-18
returns-in-18 c =
    let n17 : c.args.number ≡ 17 → ⊥ = λ e. omega arith in
    search (count_step, n17)

pub returns-in-19 : goal.returns-in-19
returns-in-19 c =
    let n17 : c.args.number ≡ 17 → ⊥ = λ e. omega arith in
    let n18 : c.args.number ≡ 18 → ⊥ = λ e. omega arith in
    search (bytes_step, n17, n18)

pub returns-in-20 : goal.returns-in-20
returns-in-20 c =
    let n17 : c.args.number ≡ 17 → ⊥ = λ e. omega arith in
    let n18 : c.args.number ≡ 18 → ⊥ = λ e. omega arith in
    let n19 : c.args.number ≡ 19 → ⊥ = λ e. omega arith in
    search (held_count_step, n17, n18, n19)

pub returns-in_default : goal.returns-in_default
returns-in_default c = search held_bytes_step
