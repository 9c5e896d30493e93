use Rattle.session_words.proofs.Own.{session_own}
use Rattle.session_words.proofs.state.is_session.Goals as goal

pub returns : goal.returns
returns c = search session_own
