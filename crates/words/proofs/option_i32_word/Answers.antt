use Rattle.words.specs.Words.{read_option_i32}
use borrow.Author.Rules.{rules}
use Rattle.words.proofs.option_i32_word.Goals as goal

pub returns : goal.returns
unfolding read_option_i32
returns c = search rules
