use native.Mathlib.Omega.{arith}
use Rattle.std.proofs.Common.{◌∙◌}
use Rattle.paper.proofs.Papers.{at_none, at_some}
use Rattle.paper.proofs.events.event_at.Goals as goal

pub returns-in_err-bytes : goal.returns-in_err-bytes
returns-in_err-bytes c = c.from_residual.ensures ∙ at_none c.args.paper.now c.args.at (omega (arith, c.in_err-bytes.ensures.lookup.3))

pub returns : goal.returns
returns c =
    let found = c.in_ok-bytes.ensures.lookup in
    at_some c.args.paper.now c.args.at _ _ _ (omega (arith, found.3.0)) (rw c.as_chunks.ensures.front at found.1) c.from_be_bytes.ensures c.decode.ensures
