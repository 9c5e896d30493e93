use Rattle.lines.proofs.text.Laws.{line_put}
use Rattle.lines.proofs.text.put_line.Goals as goal

pub returns : goal.returns
returns c = search line_put
