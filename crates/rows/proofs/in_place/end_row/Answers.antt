use Rattle.rows.proofs.Rows.{inside}
use Rattle.rows.proofs.in_place.Laws.{end_put}
use Rattle.rows.proofs.in_place.end_row.Goals as goal

pub put_columns-requires : goal.put_columns-requires
put_columns-requires c = let h = inside c.args.rows.now (c.args.i) (c.requires.0) in (h.row, h.whole)

pub returns : goal.returns
returns c = end_put _ _ _ (c.requires.0) (c.requires.1) c.record_at-at.ensures.0 _ _ _ _ _ _ c.ended_record-w.ensures c.status_words-s.ensures c.column-sequence.ensures c.put_columns.ensures c.copy.ensures
