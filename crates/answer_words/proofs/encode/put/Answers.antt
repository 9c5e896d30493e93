use Rattle.chain.proofs.Chain.{chain}
use Rattle.answer_words.specs.Encode.{written}
use Rattle.answer_words.proofs.encode.Laws.{put_on}
use Rattle.answer_words.proofs.encode.put.Goals as goal

pub returns-then-out-lt-WORDS : goal.returns-then-out-lt-WORDS
unfolding written
returns-then-out-lt-WORDS c = search chain depth 20

pub returns-then-n-gt-WORDS : goal.returns-then-n-gt-WORDS
unfolding written
returns-then-n-gt-WORDS c = search chain depth 20

pub returns : goal.returns
returns c = search put_on
