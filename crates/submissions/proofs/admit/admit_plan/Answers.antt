use Rattle.std.proofs.Common.{rules, ◌≡◌, Err}
use Rattle.rows.specs.Store.{store_of}
use Rattle.bus.specs.Tables.{bus_of}
use Rattle.submissions.proofs.admit.Laws.{ready_memory, plan_no, plan_on, plan_room_no, plan_room_on, planned_no, planned_ready}
use Rattle.submissions.proofs.admit.admit_plan.Goals as goal

pub returns-in_err-lent_ready : goal.returns-in_err-lent_ready
unfolding store_of bus_of
returns-in_err-lent_ready c = search (rules, plan_no)

pub find_place-requires : goal.find_place-requires
find_place-requires c = search (rules, ready_memory)

pub returns-in_err-place : goal.returns-in_err-place
unfolding store_of bus_of
returns-in_err-place c = search (rules, plan_on, plan_room_no)

pub returns-in_err-plan : goal.returns-in_err-plan
unfolding store_of bus_of
returns-in_err-plan c =
    let refusal : c.from_residual-in_err-plan.result ≡ Err c.in_err-plan.field-0.0 = search rules in
    search (plan_on, plan_room_on, planned_no, refusal, c.in_ok-lent_ready.was, c.in_ok-place.was, c.in_err-plan.was)

pub returns : goal.returns
unfolding store_of bus_of
returns c = search (plan_on, plan_room_on, planned_ready, c.in_ok-lent_ready.was, c.in_ok-place.was, c.in_ok-plan.was)
