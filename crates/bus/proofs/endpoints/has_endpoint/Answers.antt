use Rattle.bus.proofs.endpoints.Laws.{endpoint_listed}
use borrow.Author.Rules.{rules}
use Rattle.bus.proofs.endpoints.has_endpoint.Goals as goal

pub returns : goal.returns
returns c = search (endpoint_listed, rules)
