use Rattle.session_words.proofs.fields.Laws.{submission_is}
use Rattle.session_words.proofs.fields.is_submitting.Goals as goal

pub returns : goal.returns
returns c = search submission_is
