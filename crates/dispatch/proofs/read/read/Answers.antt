use Rattle.chain.proofs.Chain.{chain}
use Rattle.session_words.specs.State.{kept_of}
use Rattle.dispatch.specs.Read.{reading_of}
use Rattle.dispatch.proofs.read.Laws.{read_done}
use Rattle.dispatch.proofs.read.read.Goals as goal

pub returns-then-not-is_read : goal.returns-then-not-is_read
unfolding reading_of kept_of
returns-then-not-is_read c = search chain depth 20

pub returns-then-not-is_session : goal.returns-then-not-is_session
unfolding reading_of kept_of
returns-then-not-is_session c = search chain depth 20

pub returns-then-out-lt-WORDS : goal.returns-then-out-lt-WORDS
unfolding reading_of kept_of
returns-then-out-lt-WORDS c = search chain depth 20

pub returns : goal.returns
returns c = search read_done
