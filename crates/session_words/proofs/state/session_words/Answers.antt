use Rattle.session_words.proofs.state.Laws.{session_back, session_exact}
use Rattle.session_words.proofs.state.session_words.Goals as goal

pub returns : goal.returns
returns c = (search session_back, search session_exact)
