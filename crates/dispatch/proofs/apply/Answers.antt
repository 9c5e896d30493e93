use Rattle.chain.proofs.Chain.{chain}
use Rattle.session_words.specs.State.{kept_of}
use Rattle.dispatch.specs.Apply.{dispatch_of}
use Rattle.dispatch.proofs.Dispatch.{apply_done}
use Rattle.dispatch.proofs.apply.Goals as goal

pub returns-then-not-is_call : goal.returns-then-not-is_call
unfolding dispatch_of kept_of
returns-then-not-is_call c = search chain depth 20

pub returns-then-not-is_session : goal.returns-then-not-is_session
unfolding dispatch_of kept_of
returns-then-not-is_session c = search chain depth 20

pub returns-then-out-lt-WORDS : goal.returns-then-out-lt-WORDS
unfolding dispatch_of kept_of
returns-then-out-lt-WORDS c = search chain depth 20

pub returns-then-lists-lt-WORDS : goal.returns-then-lists-lt-WORDS
unfolding dispatch_of kept_of
returns-then-lists-lt-WORDS c = search chain depth 20

pub returns : goal.returns
unfolding dispatch_of kept_of
returns c = search apply_done
