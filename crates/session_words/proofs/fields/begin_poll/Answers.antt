use Rattle.session_words.proofs.fields.Laws.{poll_room, poll_begun}
use borrow.Author.Rules.{rules}
use Rattle.session_words.proofs.fields.begin_poll.Goals as goal

pub copy-requires : goal.copy-requires
copy-requires c = search (rules, poll_room)

pub returns : goal.returns
returns c = search poll_begun
