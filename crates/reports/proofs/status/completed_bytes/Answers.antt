use Rattle.std.proofs.Common.{rules}
use Rattle.reports.proofs.status.Laws.{part_is, part_inside, part_fits, part_bytes}
use Rattle.reports.proofs.status.completed_bytes.Goals as goal

pub overflow_add-end : goal.overflow_add-end
overflow_add-end c = part_fits _ _ _ _ _ _ c.completed_part.ensures.step (part_is _ _ c.in_ok-part.was) (search rules)

pub slice_bounds-result-end : goal.slice_bounds-result-end
slice_bounds-result-end c = let z = part_inside _ _ _ _ _ _ c.completed_part.ensures.step (part_is _ _ c.in_ok-part.was) in search rules

pub returns-clause-bytes : goal.returns-clause-bytes
returns-clause-bytes c = part_bytes _ _ _ _ _ _ c.completed_part.ensures.step (part_is _ _ c.in_ok-part.was)
