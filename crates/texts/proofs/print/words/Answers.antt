use Rattle.std.proofs.Common.{arith}
use Rattle.texts.proofs.Lines.{words_more, words_all, number_written, line_written}
use Rattle.texts.proofs.print.words.Goals as goal

pub loop-i-preserved : goal.loop-i-preserved
loop-i-preserved g c = record {
  above = omega arith;
  stays = λ h. omega arith;
  written = rw (words_more c.args.w.now c.args.from c.loop-i.i c.loop-i.invariant.above) (number_written _ _ _ _ _ _ c.word_at.ensures c.loop-i.invariant.written c.in_ok-number.ensures);
}

pub returns : goal.returns
returns g c =
    let all = words_all c.args.w.now c.args.from c.args.to c.loop-i.i c.loop-i-test.false c.loop-i.auto.i-end c.loop-i.invariant.stays in
    line_written _ _ _ _ _ _ _ _ all c.in_ok-text.ensures c.loop-i.invariant.written c.text-2.ensures
