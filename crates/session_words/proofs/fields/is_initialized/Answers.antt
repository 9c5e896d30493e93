use Rattle.session_words.proofs.fields.Laws.{initialized_is}
use Rattle.session_words.proofs.fields.is_initialized.Goals as goal

pub returns : goal.returns
returns c = search initialized_is
