use Rattle.std.proofs.lemmas.List.{take_more}
use Rattle.texts.proofs.Lines.{number_written}
use Rattle.texts.proofs.print.bytes.Goals as goal

pub loop-byte-preserved : goal.loop-byte-preserved
loop-byte-preserved g c =
    rw (take_more c.args.b.now c.loop-byte.byte-index 0 c.loop-byte-test.true) (number_written _ _ _ _ _ _ c.from.ensures c.loop-byte.invariant c.in_ok-number.ensures)
