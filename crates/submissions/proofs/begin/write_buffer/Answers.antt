use Rattle.submissions.proofs.begin.Laws.{write_in, write_out}
use Rattle.submissions.proofs.begin.write_buffer.Goals as goal

pub returns-then-is_in : goal.returns-then-is_in
returns-then-is_in c = search write_in

pub returns : goal.returns
returns c = search write_out
