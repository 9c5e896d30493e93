use Rattle.models.proofs.values.Laws.{tagged, untagged}
use Rattle.call_words.specs.Arguments.{read_option_id}
use Rattle.call_words.proofs.arguments.option_id.Goals as goal

pub returns-then-word_at-eq0 : goal.returns-then-word_at-eq0
unfolding read_option_id
returns-then-word_at-eq0 c = search tagged

pub returns : goal.returns
unfolding read_option_id
returns c = search untagged
