use Rattle.session_words.proofs.fields.Laws.{flight_room, flight_ended}
use Rattle.session_words.proofs.fields.end_flight.Goals as goal

pub fill-requires : goal.fill-requires
fill-requires c = search flight_room

pub returns : goal.returns
returns c = search flight_ended
