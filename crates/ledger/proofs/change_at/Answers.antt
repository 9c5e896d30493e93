use Rattle.std.proofs.Common.{rules}
use Rattle.ledger.proofs.Changes.{change_no}
use Rattle.ledger.specs.Apply.{apply_by, changed_at}
use Rattle.rows.specs.Store.{store_of}
use Rattle.ledger.proofs.change_at.Goals as goal

pub returns-in_err-step-clause-step : goal.returns-in_err-step-clause-step
unfolding store_of
returns-in_err-step-clause-step c = search (rules, change_no)

pub returns-clause-step : goal.returns-clause-step
unfolding store_of changed_at apply_by
returns-clause-step c = search rules
