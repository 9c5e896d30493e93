use Rattle.session_words.proofs.fields.Laws.{size_is}
use Rattle.session_words.proofs.fields.size.Goals as goal

pub returns : goal.returns
returns c = search size_is
