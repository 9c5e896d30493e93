use Rattle.recovery.proofs.Tokens.{first_in, done_places, gone_below, done_agree, settled_is}
use Rattle.recovery.proofs.recovery_reply.settle.Goals as goal

pub apply_all-verdict-requires : goal.apply_all-verdict-requires
apply_all-verdict-requires c = (search (first_in, c.requires.2), search (done_places, c.requires.0, c.requires.2), search (gone_below, c.requires.0, c.requires.2), search (done_agree, c.requires.1, c.requires.2))

pub returns : goal.returns
returns c = search (settled_is, c.places_of-places.ensures, c.requires.2)
