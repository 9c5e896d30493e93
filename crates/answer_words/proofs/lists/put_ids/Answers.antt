use Rattle.rows.specs.Table.{read_rows}
use Rattle.answer_words.proofs.lists.Laws.{ids_start, place_on, place_end}
use borrow.Author.Rules.{rules}
use Rattle.answer_words.proofs.lists.put_ids.Goals as goal

pub loop-k-init : goal.loop-k-init
loop-k-init c = (search rules, search ids_start)

pub loop-k-preserved : goal.loop-k-preserved
loop-k-preserved c = (search rules, place_on (read_rows c.args.rows.now) c.args.places.now _ _ _ _ _ (search rules) c.loop-k.invariant.1 _ _ c.loop-k-test.true c.id_in-id.ensures c.put_id.ensures (search rules))

pub returns : goal.returns
returns c = search place_end
