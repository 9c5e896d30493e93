use Rattle.rows.proofs.columns.Laws.{token_out}
use Rattle.rows.proofs.columns.token_in.Goals as goal

pub returns : goal.returns
returns c = search token_out
