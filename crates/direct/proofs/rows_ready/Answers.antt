use Rattle.direct.proofs.Laws.{start_pass, start_unfit}
use Rattle.session.proofs.start.Laws.{ready_busy}
use Rattle.direct.proofs.rows_ready.Goals as goal

pub returns-then-is_busy : goal.returns-then-is_busy
returns-then-is_busy c = search ready_busy

pub returns-then-not-rows_fit : goal.returns-then-not-rows_fit
returns-then-not-rows_fit c = search start_unfit

pub returns : goal.returns
returns c = search start_pass
