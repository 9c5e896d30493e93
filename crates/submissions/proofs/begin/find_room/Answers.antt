use Rattle.submissions.proofs.begin.Laws.{room_full, room_first}
use Rattle.submissions.proofs.begin.find_room.Goals as goal

pub returns-then-held_count-ge-HELD_MOST : goal.returns-then-held_count-ge-HELD_MOST
returns-then-held_count-ge-HELD_MOST c = search room_full

pub returns : goal.returns
returns c = search room_first
