use Rattle.rows.specs.Codec.{read_metadata}
use Rattle.rows.proofs.codec.to_metadata.Goals as goal

pub returns : goal.returns
unfolding read_metadata
returns c = simp (c.to_setup-setup.ensures, c.from.ensures, c.from-2.ensures)
