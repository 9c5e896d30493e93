use Rattle.std.proofs.Common.{◌≡◌, arith}
use Rattle.dispatch.proofs.controller.Move.{acquire_step, initialize_step, close_step}
use Rattle.dispatch.proofs.controller.move_call.Goals as goal

pub returns-in-5 : goal.returns-in-5
returns-in-5 c = search acquire_step

pub returns-in-6 : goal.returns-in-6
returns-in-6 c =
    let n5 : c.args.number ≡ 5 → ⊥ = λ e. omega arith in
    search (initialize_step, n5)

pub returns-in_default : goal.returns-in_default
returns-in_default c = search close_step
