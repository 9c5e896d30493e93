use Rattle.rows.specs.Codec.{read_row}
use Rattle.rows.proofs.in_place.renewed_state.Goals as goal

pub returns : goal.returns
unfolding read_row
returns c = rw (c.state_words.ensures.1, c.to_state-state.ensures, c.kind_by-kind.ensures)
