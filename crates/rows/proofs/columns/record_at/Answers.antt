use Rattle.rows.proofs.Rows.{inside}
use Rattle.rows.specs.Table.{row_count}
use mathlib.Core.Path.{refl}
use native.Mathlib.Omega.{arith}
use Rattle.rows.proofs.columns.record_at.Goals as goal

pub overflow_mul-result-2 : goal.overflow_mul-result-2
unfolding row_count
overflow_mul-result-2 c = omega (arith, inside c.args.rows.now c.args.i c.requires)

pub overflow_add-result : goal.overflow_add-result
unfolding row_count
overflow_add-result c = omega (arith, inside c.args.rows.now c.args.i c.requires)

pub returns : goal.returns
unfolding row_count
returns c = (refl, omega (arith, inside c.args.rows.now c.args.i c.requires))
