use Prim.Native.Nat.{◌+◌}
use mathlib.Core.Path.{◌≡◌}
use lib.ListN.{length, take}
use Rattle.words.specs.Records.{splice}
use Rattle.rows.specs.Table.{read_rows}
use Rattle.recovery.specs.Reports.{ids_of}
use Rattle.answer_words.specs.Lists.{id_words}
use Rattle.answer_words.proofs.lists.put_ids.Given as goal

abbrev pub invariant-loop-k : goal.invariant-loop-k
invariant-loop-k l = (length l.lists ≡ length l.initial.lists) × (l.lists ≡ splice (l.at + 1) (id_words (take l.k (ids_of (read_rows l.rows) l.places))) l.initial.lists)
