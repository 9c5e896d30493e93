use borrow.Author.Rules.{rules}
use Rattle.paper.specs.Form.{is_refused_size}
use Rattle.paper.proofs.form.is_refused_size.Goals as goal

pub returns : goal.returns
unfolding is_refused_size
returns c = search rules
