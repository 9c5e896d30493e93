use Rattle.std.proofs.Common.{◌≡◌, arith}
use Rattle.dispatch.proofs.requests.Recover.{replied_run, abort_run, reset_run}
use Rattle.dispatch.proofs.requests.recover_call.Goals as goal

pub returns-in-22 : goal.returns-in-22
returns-in-22 c = search abort_run

pub returns-in-23 : goal.returns-in-23
returns-in-23 c =
    let n22 : c.args.number ≡ 22 → ⊥ = λ e. omega arith in
    search (reset_run, n22)

pub returns-in_default : goal.returns-in_default
returns-in_default c = search replied_run
