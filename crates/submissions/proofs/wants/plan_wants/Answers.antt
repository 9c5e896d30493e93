use Rattle.std.proofs.Common.{rules}
use Rattle.bus.specs.Tables.{bus_of}
use Rattle.submissions.proofs.Admission.{plan_tables}
use Rattle.submissions.proofs.wants.Laws.{plan_none, plan_wants_lem}
use Rattle.submissions.proofs.wants.plan_wants.Goals as goal

pub target_wants-requires : goal.target_wants-requires
target_wants-requires c = search (rules, plan_tables)

pub returns-in_err-admitted : goal.returns-in_err-admitted
unfolding bus_of
returns-in_err-admitted c = search (rules, plan_none)

pub returns : goal.returns
unfolding bus_of
returns c = search (rules, plan_wants_lem)
