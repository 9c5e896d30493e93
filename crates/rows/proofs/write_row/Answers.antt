use Rattle.rows.proofs.Rows.{inside, put_row_lem}
use Rattle.rows.proofs.write_row.Goals as goal

pub put_columns-requires : goal.put_columns-requires
put_columns-requires c = let h = inside c.args.rows.now c.args.i c.requires in (h.row, h.whole)

pub returns : goal.returns
returns c = search put_row_lem
