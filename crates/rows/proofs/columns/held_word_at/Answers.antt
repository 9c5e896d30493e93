use native.Mathlib.Omega.{arith}
use Rattle.rows.proofs.columns.Laws.{held_word}
use Rattle.rows.proofs.columns.held_word_at.Goals as goal

pub returns : goal.returns
returns c = (search held_word, omega arith)
