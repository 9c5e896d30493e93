use Rattle.call_words.proofs.form.Laws.{completions_on}
use Rattle.call_words.proofs.form.are_completions.Goals as goal

pub loop-k-preserved : goal.loop-k-preserved
loop-k-preserved c = search completions_on
