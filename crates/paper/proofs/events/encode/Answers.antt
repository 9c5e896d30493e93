use native.Mathlib.Omega.{arith}
use Rattle.paper.proofs.Papers.{encoded_none, encoded_some}
use Rattle.paper.proofs.events.encode.Goals as goal
use Rattle.paper.proofs.events.encode.Goals.{then-e-gt15-via-then-e-gt15, then-e-gt15-via-else-e-gt15+then-e-gt131071, then-e-gt15-via-else-e-gt15+else-e-gt131071+then-e-gt7}

pub returns-then-e-gt15 : goal.returns-then-e-gt15
returns-then-e-gt15 c = elim c.then-e-gt15.branch [
  | then-e-gt15-via-then-e-gt15 w ↦ encoded_none _ 0 (omega arith) (omega arith)
  | then-e-gt15-via-else-e-gt15+then-e-gt131071 w ↦ encoded_none _ 5 (omega arith) (omega arith)
  | then-e-gt15-via-else-e-gt15+else-e-gt131071+then-e-gt7 w ↦ encoded_none _ 6 (omega arith) (omega arith)
]

pub returns : goal.returns
returns c = encoded_some _ _ (omega arith) (omega arith) (omega arith) (omega arith) (omega arith) (omega arith) (omega arith) (omega arith)
