use mathlib.Core.Path.{sym}
use native.Mathlib.Omega.{arith}
use lib.Pow.{shr_mod}
use Rattle.standards.proofs.Masks.{shifted, low_mask}
use Rattle.paper.proofs.Papers.{decoded-by}
use Rattle.paper.proofs.events.decode.Goals as goal

pub returns : goal.returns
returns c = let n = c.args.word in
    decoded-by n _ _ _ _ _ _ _ (sym (shr_mod 4 60 (omega arith))) (shifted 52 8 n) (shifted 44 8 n) (shifted 28 16 n) (shifted 20 8 n) (shifted 3 17 n) (low_mask 3 n)
