use Rattle.rows.proofs.Rows.{inside}
use Rattle.rows.proofs.in_place.Laws.{free_put}
use Rattle.rows.proofs.in_place.free_row.Goals as goal

pub put_columns-requires : goal.put_columns-requires
put_columns-requires c = let h = inside c.args.rows.now c.args.i c.requires in (h.row, h.whole)

pub returns : goal.returns
returns c = search free_put
