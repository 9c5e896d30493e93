use Rattle.bus.proofs.Opening.{begin_step, begin_end}
use borrow.Author.Rules.{rules}
use Rattle.bus.proofs.begin_ports.Goals as goal

pub loop-i-preserved : goal.loop-i-preserved
loop-i-preserved c = (search rules, search rules, search begin_step)

pub returns : goal.returns
returns c = search begin_end
