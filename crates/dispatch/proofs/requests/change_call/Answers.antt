use Rattle.std.proofs.Common.{◌≡◌, arith}
use Rattle.dispatch.proofs.requests.Change.{cancel_writes, timeout_writes, reclaim_writes}
use Rattle.dispatch.proofs.requests.change_call.Goals as goal

pub returns-in-13 : goal.returns-in-13
returns-in-13 c = search cancel_writes

pub returns-in-14 : goal.returns-in-14
returns-in-14 c =
    let n13 : c.args.number ≡ 13 → ⊥ = λ e. omega arith in
    search (timeout_writes, n13)

pub returns-in_default : goal.returns-in_default
returns-in_default c = search reclaim_writes
