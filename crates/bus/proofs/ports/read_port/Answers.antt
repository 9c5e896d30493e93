use Rattle.bus.proofs.Tables.{port_is}
use Rattle.bus.proofs.ports.read_port.Goals as goal

pub returns : goal.returns
returns c = search port_is
