use Rattle.std.proofs.Common.{◌≡◌, ◌<◌, ◌≤◌}
use Rattle.std.specs.Io.KnownBytes.{Appends}
use Rattle.texts.specs.Lines.{numbers_text, words_between}
use Rattle.texts.proofs.print.words.Given as goal

abbrev pub invariant-loop-i : goal.invariant-loop-i
invariant-loop-i g l = record {
  above : l.from ≤ l.i;
  stays : l.to < l.from → l.i ≡ l.from;
  written : Appends (g.W.Write.contents l.initial.out) (g.W.Write.contents l.out) (numbers_text (words_between l.w l.from l.i));
}
