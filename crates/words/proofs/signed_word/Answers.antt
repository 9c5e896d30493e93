use mathlib.Core.Path.{ap, ◌∙◌}
use mir.Syntax.{w32}
use mir.Val.{of_z}
use mir.ValLaws.{to_z-of_z}
use Rattle.words.proofs.Signed.{signed_bits}
use Rattle.words.proofs.signed_word.Goals as goal

pub returns : goal.returns
returns c = signed_bits _ _ c.ranges.v (c.from.ensures ∙ c.cast_unsigned.ensures ∙ ap (of_z w32) (to_z-of_z w32 c.args.v c.ranges.v))
