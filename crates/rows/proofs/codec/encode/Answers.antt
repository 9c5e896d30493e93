use Rattle.words.proofs.Options.{low}
use Rattle.rows.specs.Codec.{read_row, read_metadata, record_of}
use borrow.Author.Rules.{rules}
use Rattle.rows.proofs.codec.encode.Goals as goal

pub returns : goal.returns
unfolding read_row read_metadata record_of
returns c = (simp (c.flag_word.ensures.0, c.flag_word-2.ensures.0, c.from.ensures.0, c.from-2.ensures.0, c.requires.0, c.requires.2, c.requires.3, low 8 {v = c.args.r.metadata.device.slot} (search rules), low 8 {v = c.args.r.metadata.endpoint} (search rules)), rw (c.flag_word-2.ensures.1, c.flag_word.ensures.1, c.from.ensures.1, c.from-2.ensures.1, c.requires.1, c.requires.4))
