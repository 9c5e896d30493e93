use Rattle.std.proofs.Common.{rules, ◌≡◌, Ok}
use Rattle.bus.specs.Tables.{bus_of}
use Rattle.submissions.proofs.Admission.{admitted_tables}
use Rattle.submissions.proofs.wants.Laws.{submit_none, submit_wants_lem}
use Rattle.submissions.proofs.wants.submit_wants.Goals as goal

pub target_wants-requires : goal.target_wants-requires
target_wants-requires c = search (rules, admitted_tables)

pub returns-in_err-admitted : goal.returns-in_err-admitted
unfolding bus_of
returns-in_err-admitted c = search (rules, submit_none)

pub returns : goal.returns
unfolding bus_of
returns c =
    let admitted : c.admit.result ≡ Ok c.in_ok-admitted.admitted = search rules in
    search (submit_wants_lem, admitted)
