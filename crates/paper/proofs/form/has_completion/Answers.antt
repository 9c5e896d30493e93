use Rattle.standards.proofs.Masks.{bit_is}
use Rattle.paper.proofs.form.has_completion.Goals as goal

pub returns : goal.returns
returns c = bit_is 2 c.args.e.flags
