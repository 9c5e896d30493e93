use Rattle.rows.proofs.codec.Laws.{status_exact}
use Rattle.rows.proofs.codec.status_words.Goals as goal

pub returns : goal.returns
returns c = status_exact _ _ _ _ _ c.state_words-w.ensures.0 c.state_words-w.ensures.1 c.kind_word-kind.ensures
    c.status_by.ensures
