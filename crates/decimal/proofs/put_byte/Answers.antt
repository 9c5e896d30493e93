use borrow.Author.Rules.{rules}
use Rattle.decimal.proofs.Decimal.{byte_put}
use Rattle.decimal.proofs.put_byte.Goals as goal

pub returns : goal.returns
returns c = byte_put _ _ _ (search rules)
