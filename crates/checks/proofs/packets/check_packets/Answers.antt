use Rattle.chain.proofs.Chain.{chain}
use Rattle.models.proofs.Said.{tabled_says}
use Rattle.checks.proofs.Said.{rejected_tabled}
use Rattle.checks.specs.Packets.{packets_checked}
use Rattle.checks.proofs.packets.check_packets.Goals as goal

pub returns-in_default-clause-step : goal.returns-in_default-clause-step
unfolding packets_checked
returns-in_default-clause-step c = rw c.in_default.is (search chain depth 20)

pub returns-in_default-clause-table : goal.returns-in_default-clause-table
returns-in_default-clause-table c = search tabled_says

pub returns-then-not-is_isochronous-clause-step : goal.returns-then-not-is_isochronous-clause-step
unfolding packets_checked
returns-then-not-is_isochronous-clause-step c = rw c.in-Some.is (search chain depth 20)

pub returns-then-not-is_isochronous-clause-table : goal.returns-then-not-is_isochronous-clause-table
returns-then-not-is_isochronous-clause-table c = search rejected_tabled

pub returns-then-n-clause-step : goal.returns-then-n-clause-step
unfolding packets_checked
returns-then-n-clause-step c = rw c.in-Some.is (search chain depth 20)

pub returns-then-n-clause-table : goal.returns-then-n-clause-table
returns-then-n-clause-table c = search rejected_tabled

pub returns-then-not-sums_to-clause-step : goal.returns-then-not-sums_to-clause-step
unfolding packets_checked
returns-then-not-sums_to-clause-step c = rw c.in-Some.is (search chain depth 20 fits 6000)

pub returns-then-not-sums_to-clause-table : goal.returns-then-not-sums_to-clause-table
returns-then-not-sums_to-clause-table c = search rejected_tabled

pub returns-clause-step : goal.returns-clause-step
unfolding packets_checked
returns-clause-step c = rw c.in-Some.is (search chain depth 20)

pub returns-clause-table : goal.returns-clause-table
returns-clause-table c = search tabled_says
