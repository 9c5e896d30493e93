use Rattle.submissions.proofs.admit.Laws.{room_fits, place_none, place_at}
use Rattle.submissions.proofs.admit.find_place.Goals as goal

pub returns-in_default : goal.returns-in_default
returns-in_default c = search place_none

pub overflow_mul-start : goal.overflow_mul-start
overflow_mul-start c = search room_fits

pub returns : goal.returns
returns c = search place_at
