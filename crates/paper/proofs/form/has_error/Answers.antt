use Rattle.standards.proofs.Masks.{bit_is}
use Rattle.paper.proofs.form.has_error.Goals as goal

pub returns : goal.returns
returns c = bit_is 1 c.args.e.flags
