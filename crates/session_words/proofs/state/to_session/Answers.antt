use Rattle.session_words.proofs.state.Laws.{session_read}
use Rattle.session_words.proofs.state.to_session.Goals as goal

pub returns : goal.returns
returns c = search session_read
