use Rattle.words.proofs.Signed.{read_bits}
use borrow.Author.Rules.{rules}
use Rattle.words.proofs.to_signed.Goals as goal

pub returns : goal.returns
returns c = search (read_bits, rules)
