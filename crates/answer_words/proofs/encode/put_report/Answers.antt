use Rattle.chain.proofs.Chain.{chain}
use Rattle.answer_words.specs.Encode.{written}
use Rattle.answer_words.proofs.encode.Laws.{report_long, report_put}
use Rattle.answer_words.proofs.encode.put_report.Goals as goal

pub returns-then-out-lt-WORDS : goal.returns-then-out-lt-WORDS
unfolding written
returns-then-out-lt-WORDS c = search chain depth 20

pub returns-then-n-ge-WORDS : goal.returns-then-n-ge-WORDS
returns-then-n-ge-WORDS c = search report_long

pub returns : goal.returns
returns c = search report_put
