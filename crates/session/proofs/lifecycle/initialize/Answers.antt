use Rattle.chain.proofs.Chain.{chain}
use Rattle.session.specs.Lifecycle.{initialize_of}
use Rattle.session.proofs.Said.{initialize_said}
use Rattle.session.proofs.lifecycle.initialize.Goals as goal

pub returns-then-is_busy-clause-step : goal.returns-then-is_busy-clause-step
unfolding initialize_of
returns-then-is_busy-clause-step c = search chain depth 20

pub returns-then-is_busy-clause-table : goal.returns-then-is_busy-clause-table
returns-then-is_busy-clause-table c = (initialize_said c.args.reply c.args.session _ (returns-then-is_busy-clause-step c)).1

pub returns-then-not-is_acquired-clause-step : goal.returns-then-not-is_acquired-clause-step
unfolding initialize_of
returns-then-not-is_acquired-clause-step c = search chain depth 20

pub returns-then-not-is_acquired-clause-table : goal.returns-then-not-is_acquired-clause-table
returns-then-not-is_acquired-clause-table c = (initialize_said c.args.reply c.args.session _ (returns-then-not-is_acquired-clause-step c)).1

pub returns-clause-step : goal.returns-clause-step
unfolding initialize_of
returns-clause-step c = search chain depth 20

pub returns-clause-table : goal.returns-clause-table
returns-clause-table c = (initialize_said c.args.reply c.args.session _ (returns-clause-step c)).1
