use Rattle.bus.proofs.endpoints.Laws.{endpoints_over, endpoints_set}
use Rattle.bus.proofs.Said.{set_endpoints_said}
use borrow.Author.Rules.{rules}
use Rattle.bus.proofs.endpoints.set_endpoints.Goals as goal

pub returns-then-list-gt-ENDPOINTS_MOST-clause-step : goal.returns-then-list-gt-ENDPOINTS_MOST-clause-step
returns-then-list-gt-ENDPOINTS_MOST-clause-step c = endpoints_over _ _ _ _ (search rules) (search rules)

pub returns-then-list-gt-ENDPOINTS_MOST-clause-table : goal.returns-then-list-gt-ENDPOINTS_MOST-clause-table
returns-then-list-gt-ENDPOINTS_MOST-clause-table c = (set_endpoints_said _ _ _ _ _ (returns-then-list-gt-ENDPOINTS_MOST-clause-step c)).1

pub returns-clause-step : goal.returns-clause-step
returns-clause-step c = search endpoints_set

pub returns-clause-table : goal.returns-clause-table
returns-clause-table c = (set_endpoints_said _ _ _ _ _ (returns-clause-step c)).1
