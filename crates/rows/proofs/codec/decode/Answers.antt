use Rattle.rows.specs.Codec.{read_row}
use Rattle.rows.proofs.codec.decode.Goals as goal

pub returns : goal.returns
unfolding read_row
returns c = simp (c.to_flag-3.ensures, c.to_flag-2.ensures, c.to_flag.ensures, c.to_state-state.ensures, c.kind_by-kind.ensures, c.to_metadata-metadata.ensures)
