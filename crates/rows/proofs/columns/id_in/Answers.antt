use Rattle.models.proofs.Ids.{no_id-default}
use Rattle.rows.proofs.columns.Laws.{id_out}
use Rattle.rows.proofs.columns.id_in.Goals as goal

pub returns : goal.returns
returns c = search (no_id-default, id_out)
