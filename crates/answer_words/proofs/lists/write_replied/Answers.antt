use Rattle.answer_words.proofs.lists.Laws.{replied_refused, replied_put}
use Rattle.answer_words.proofs.lists.write_replied.Goals as goal

pub returns-in-Ok : goal.returns-in-Ok
returns-in-Ok c = search replied_put

pub returns-in_default : goal.returns-in_default
returns-in_default c = search replied_refused
