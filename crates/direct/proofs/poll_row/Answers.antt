use Rattle.direct.proofs.Laws.{row_asked, row_early, row_told}
use borrow.Author.Rules.{rules}
use Rattle.direct.proofs.poll_row.Goals as goal

pub returns-then-not-pending_at : goal.returns-then-not-pending_at
returns-then-not-pending_at c = search row_told

pub returns-then-not-is_initialized : goal.returns-then-not-is_initialized
returns-then-not-is_initialized c = row_early _ _ _ _ (search rules) _ (search rules) c.pending_at.result (search rules) (search rules)
    c.is_initialized.result (search rules) (search rules) (search rules)

pub returns : goal.returns
returns c = search row_asked
