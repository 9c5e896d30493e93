use Rattle.words.specs.Words.{read_option_i32}
use borrow.Author.Rules.{rules}
use Rattle.words.proofs.to_option_i32.Goals as goal

pub returns : goal.returns
unfolding read_option_i32
returns c = search rules
