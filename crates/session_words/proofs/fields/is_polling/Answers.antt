use Rattle.session_words.proofs.fields.Laws.{poll_is}
use Rattle.session_words.proofs.fields.is_polling.Goals as goal

pub returns : goal.returns
returns c = search poll_is
