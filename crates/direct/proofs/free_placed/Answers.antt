use Rattle.direct.proofs.Laws.{freed_at_lem}
use Rattle.rows.specs.Store.{store_of}
use Rattle.direct.proofs.free_placed.Goals as goal

pub returns-in-Ok : goal.returns-in-Ok
unfolding store_of
returns-in-Ok c = search freed_at_lem
