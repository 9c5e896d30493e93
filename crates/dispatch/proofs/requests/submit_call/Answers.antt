use Rattle.dispatch.proofs.requests.Submit.{submit_step, plan_step}
use Rattle.dispatch.proofs.requests.submit_call.Goals as goal

pub returns-then-number-eq8 : goal.returns-then-number-eq8
returns-then-number-eq8 c = search (
  submit_step,
  c.if-number-eq8.true,
  c.new_request-q.ensures,
)

pub returns : goal.returns
returns c = search plan_step
