use Rattle.rows.proofs.in_place.Laws.{record_is}
use Rattle.rows.proofs.in_place.renewed.Goals as goal

pub returns : goal.returns
returns c = record_is _ _ _ _ c.renewed_transfer.ensures c.renewed_direction.ensures c.renewed_setup-p.ensures _ _ _ _ _ _ _ c.flag_word.ensures.1 c.flag_word-2.ensures.1 c.status_words-s.ensures.2
