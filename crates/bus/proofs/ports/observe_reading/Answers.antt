use Rattle.bus.specs.Ports.{fresh_reading}
use borrow.Author.Rules.{rules}
use Rattle.bus.proofs.ports.observe_reading.Goals as goal

pub returns-in_err-raw : goal.returns-in_err-raw
unfolding fresh_reading
returns-in_err-raw c = search rules

pub returns : goal.returns
unfolding fresh_reading
returns c = search rules
