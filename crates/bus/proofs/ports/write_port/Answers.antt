use Rattle.bus.proofs.Tables.{put_port_lem}
use Rattle.bus.proofs.ports.write_port.Goals as goal

pub returns : goal.returns
returns c = search put_port_lem
