use mathlib.Core.Path.{refl}
use Rattle.reports.specs.Said.{cancel_numbers}
use Rattle.reports.proofs.Said.{change_said}
use borrow.Author.Rules.{rules}
use Rattle.reports.proofs.change.logical_cancel_request.Goals as goal

pub returns-clause-step : goal.returns-clause-step
returns-clause-step c = search rules

pub returns-clause-table : goal.returns-clause-table
returns-clause-table c = (change_said cancel_numbers _ refl _ _ _ _ _ (returns-clause-step c)).1
