use Rattle.session_words.proofs.fields.Laws.{flight_id_is}
use Rattle.session_words.proofs.fields.flight_id.Goals as goal

pub returns : goal.returns
returns c = search flight_id_is
