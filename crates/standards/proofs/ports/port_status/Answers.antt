use Rattle.standards.proofs.Masks.{enabled_mask, resetting_mask, changes_mask}
use Rattle.standards.proofs.ports.port_status.Goals as goal

pub returns : goal.returns
returns c = rw (c.port_connected.ensures, c.port_speed.ensures, enabled_mask c.args.raw, resetting_mask c.args.raw, changes_mask c.args.raw)
