use Rattle.chain.proofs.Chain.{chain}
use Rattle.session.specs.Lifecycle.{acquire_of}
use Rattle.session.proofs.Said.{acquire_said}
use Rattle.session.proofs.lifecycle.acquire.Goals as goal

pub returns-then-is_busy-clause-step : goal.returns-then-is_busy-clause-step
unfolding acquire_of
returns-then-is_busy-clause-step c = search chain depth 20

pub returns-then-is_busy-clause-table : goal.returns-then-is_busy-clause-table
returns-then-is_busy-clause-table c = (acquire_said c.args.reply c.args.session _ (returns-then-is_busy-clause-step c)).1

pub returns-then-not-is_closed-clause-step : goal.returns-then-not-is_closed-clause-step
unfolding acquire_of
returns-then-not-is_closed-clause-step c = search chain depth 20

pub returns-then-not-is_closed-clause-table : goal.returns-then-not-is_closed-clause-table
returns-then-not-is_closed-clause-table c = (acquire_said c.args.reply c.args.session _ (returns-then-not-is_closed-clause-step c)).1

pub returns-clause-step : goal.returns-clause-step
unfolding acquire_of
returns-clause-step c = search chain depth 20

pub returns-clause-table : goal.returns-clause-table
returns-clause-table c = (acquire_said c.args.reply c.args.session _ (returns-clause-step c)).1
