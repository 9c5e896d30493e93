-- What is in flight, by its kind and its request. Assumes nothing.
use Rattle.std.specs.Prelude.{Bool, true, false}
use Rattle.models.specs.Values.{read_request_words}
use Rattle.models.specs.declared.{RequestId.RequestId}
use Rattle.session.specs.declared.{InFlight.InFlight}

abbrev pub is_submit_flight : InFlight → Bool
is_submit_flight InFlight.Nothing = false
is_submit_flight (InFlight.Submission id) = true
is_submit_flight (InFlight.Poll id) = false
is_submit_flight (InFlight.Recovery x) = false

abbrev pub is_poll_flight : InFlight → Bool
is_poll_flight InFlight.Nothing = false
is_poll_flight (InFlight.Submission id) = false
is_poll_flight (InFlight.Poll id) = true
is_poll_flight (InFlight.Recovery x) = false

-- of a recovery its target; where nothing is in flight, all words 0
abbrev pub flight_id : InFlight → RequestId
flight_id InFlight.Nothing = read_request_words 0 0 0
flight_id (InFlight.Submission id) = id
flight_id (InFlight.Poll id) = id
flight_id (InFlight.Recovery x) = x.target
