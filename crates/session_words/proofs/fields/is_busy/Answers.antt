use Rattle.session_words.proofs.fields.Laws.{busy_is}
use Rattle.session_words.proofs.fields.is_busy.Goals as goal

pub returns : goal.returns
returns c = search busy_is
