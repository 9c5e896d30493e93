use Rattle.standards.proofs.Packets.{bytes-are}
use Rattle.standards.proofs.setup.setup_bytes.Goals as goal

pub returns : goal.returns
returns c = search bytes-are
