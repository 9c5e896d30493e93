use Rattle.reports.proofs.answers.Laws.{effect_mild, effect_marks}
use Rattle.reports.proofs.answers.take_effect.Goals as goal

pub returns-then-is_mild : goal.returns-then-is_mild
returns-then-is_mild c = search effect_mild

pub returns : goal.returns
returns c = search effect_marks
