use Rattle.std.proofs.Common.{◌≡◌, arith}
use Rattle.dispatch.proofs.controller.Place.{open_step, device_step, port_step, endpoints_step, reconcile_step}
use Rattle.dispatch.proofs.controller.place_call.Goals as goal

pub returns-in-0 : goal.returns-in-0
returns-in-0 c = search open_step

pub returns-in-1 : goal.returns-in-1
returns-in-1 c =
    let n0 : c.args.number ≡ 0 → ⊥ = λ e. omega arith in
    search (device_step, n0)

pub returns-in-2 : goal.returns-in-2
returns-in-2 c =
    let n0 : c.args.number ≡ 0 → ⊥ = λ e. omega arith in
    let n1 : c.args.number ≡ 1 → ⊥ = λ e. omega arith in
    search (port_step, n0, n1)

pub returns-in-3 : goal.returns-in-3
returns-in-3 c =
    let n0 : c.args.number ≡ 0 → ⊥ = λ e. omega arith in
    let n1 : c.args.number ≡ 1 → ⊥ = λ e. omega arith in
    let n2 : c.args.number ≡ 2 → ⊥ = λ e. omega arith in
    search (endpoints_step, n0, n1, n2)

pub returns-in_default : goal.returns-in_default
returns-in_default c = search reconcile_step
