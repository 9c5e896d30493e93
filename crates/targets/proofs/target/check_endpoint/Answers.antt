use Rattle.std.proofs.Common.{rules, ap, not}
use Rattle.targets.proofs.target.Laws.{endpoint_early, endpoint_refused, endpoint_on}
use Rattle.targets.proofs.target.check_endpoint.Goals as goal

pub returns-then-not-is_configured : goal.returns-then-not-is_configured
returns-then-not-is_configured c = search (rules, endpoint_early)

pub returns-in_err-raw : goal.returns-in_err-raw
returns-in_err-raw c = endpoint_refused _ _ _ _ _ _ c.is_configured.ensures (ap not c.if-not-is_configured.false) _ _ c.fresh_port.ensures.step _ _ c.in_err-raw.was (search rules)

pub returns : goal.returns
returns c = search (rules, endpoint_on)
