use Rattle.rows.proofs.columns.Laws.{token_is}
use Rattle.rows.proofs.columns.token_at.Goals as goal

pub returns : goal.returns
returns c = search token_is
