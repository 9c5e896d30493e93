-- The words of an answer say its number and its values. Assumes nothing.
use mathlib.Core.Path.{◌≡◌, refl}
use Rattle.chain.specs.Chain.{◌if◌else◌}
use Rattle.calls.specs.Said.{answer_said}
use Rattle.calls.specs.declared.{Answer.Answer}
use Rattle.answer_words.specs.Encode.{refusal_words, begun_words, plan_words, report_words, recovering_words, recovered_words, answer_words}
use Rattle.answer_words.specs.Read.{said_in}

pub words_said : (a : Answer) → said_in (answer_words a) ≡ answer_said a
unfolding refusal_words begun_words plan_words report_words recovering_words recovered_words ◌if◌else◌
words_said (Answer.Refused r) = refl
words_said Answer.Pass = refl
words_said (Answer.Begun x) = refl
words_said (Answer.PlanBegun x) = refl
words_said (Answer.Report x) = refl
words_said Answer.NoReport = refl
words_said (Answer.Asked token) = refl
words_said (Answer.Number n) = refl
words_said (Answer.Bytes p) = refl
words_said (Answer.Recovering x) = refl
words_said (Answer.Recovered x) = refl
