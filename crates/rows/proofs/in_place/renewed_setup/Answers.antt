use mathlib.Core.Path.{ap, ◌∙◌}
use Rattle.models.specs.Values.{setup_words}
use Rattle.rows.proofs.in_place.Laws.{setup_is}
use Rattle.rows.proofs.in_place.renewed_setup.Goals as goal

pub returns : goal.returns
returns c = c.setup_words.ensures.1 ∙ ap setup_words (c.to_setup-setup.ensures ∙ setup_is _)
