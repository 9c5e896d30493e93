use mathlib.Core.Path.{◌≡◌}
use Rattle.call_words.specs.Form.{are_completions}
use Rattle.call_words.proofs.form.are_completions.Given as goal

abbrev pub invariant-loop-k : goal.invariant-loop-k
invariant-loop-k l = l.good ≡ are_completions l.w l.at l.k
