use Rattle.recovery.proofs.entries.Laws.{place_below}
use Rattle.recovery.proofs.entries.abort_all.Goals as goal

pub abort_one-requires : goal.abort_one-requires
abort_one-requires c = search place_below
