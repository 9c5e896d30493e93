use Rattle.std.proofs.Common.{sym, ◌∙◌}
use Rattle.answer_words.proofs.lists.Laws.{begun_refused, begun_put}
use Rattle.answer_words.proofs.lists.write_begun.Goals as goal

pub returns-then-is_ok : goal.returns-then-is_ok
returns-then-is_ok c = begun_put c.args.begun c.args.lists.now _ (sym c.is_ok.ensures.value ∙ c.if-is_ok.true) c.put_tokens.ensures

pub returns-else-is_ok : goal.returns-else-is_ok
returns-else-is_ok c = begun_refused c.args.begun c.args.lists.now (sym c.is_ok.ensures.value ∙ c.if-is_ok.false)
