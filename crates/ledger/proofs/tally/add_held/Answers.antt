use Rattle.std.proofs.Common.{arith, ap, not}
use Rattle.ledger.proofs.tally.Laws.{bytes_kept, bytes_more, saturate_is}
use Rattle.ledger.proofs.tally.add_held.Goals as goal

pub returns-then-not-held_at : goal.returns-then-not-held_at
returns-then-not-held_at c = search (bytes_kept 64)

pub returns : goal.returns
returns c =
    bytes_more 64 _ _ _ c.held_at.ensures _ _ (ap not c.if-not-held_at.false) c.requested_length_at.ensures
    (saturate_is 64 _ _ (λ h. omega arith) (λ h. omega arith))
