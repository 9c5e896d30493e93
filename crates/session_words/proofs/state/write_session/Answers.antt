use Rattle.session_words.proofs.state.Laws.{kept_out, kept_in_lem}
use Rattle.session_words.proofs.state.write_session.Goals as goal

pub returns-then-w-ne-WORDS : goal.returns-then-w-ne-WORDS
returns-then-w-ne-WORDS c = search kept_out

pub returns : goal.returns
returns c = search kept_in_lem
