use Rattle.rows.proofs.Rows.{column_in, column_is}
use native.Mathlib.Omega.{arith}
use Rattle.rows.proofs.columns.column.Goals as goal

pub overflow_add-result : goal.overflow_add-result
overflow_add-result c = omega (arith, column_in c.args.rows.now c.args.i c.args.k c.requires.0 c.requires.1)

pub offset_bounds-rows-n : goal.offset_bounds-rows-n
offset_bounds-rows-n c = omega (arith, column_in c.args.rows.now c.args.i c.args.k c.requires.0 c.requires.1)

pub bounds-rows-n : goal.bounds-rows-n
bounds-rows-n c = omega (arith, column_in c.args.rows.now c.args.i c.args.k c.requires.0 c.requires.1)

pub returns : goal.returns
returns c = search column_is
