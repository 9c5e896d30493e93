use Rattle.std.proofs.Common.{rules, ◌≡◌, ◌∙◌, Err}
use Rattle.rows.specs.Store.{store_of}
use Rattle.bus.specs.Tables.{bus_of}
use Rattle.submissions.proofs.admit.Laws.{ready_memory, admit_no, admit_on, packets_no, packets_on, room_no, room_on, prepared_no, prepared_ready}
use Rattle.submissions.proofs.admit.admit.Goals as goal

pub returns-in_err-lent_ready : goal.returns-in_err-lent_ready
unfolding store_of bus_of
returns-in_err-lent_ready c = search (rules, admit_no)

pub returns-in_err-check_packets : goal.returns-in_err-check_packets
unfolding store_of bus_of
returns-in_err-check_packets c = search (rules, admit_on, packets_no)

pub find_place-requires : goal.find_place-requires
find_place-requires c = search (rules, ready_memory)

pub returns-in_err-place : goal.returns-in_err-place
unfolding store_of bus_of
returns-in_err-place c = search (rules, admit_on, packets_on, room_no)

pub returns-in_err-metadata : goal.returns-in_err-metadata
unfolding store_of bus_of
returns-in_err-metadata c =
    let refusal : c.from_residual-in_err-metadata.result ≡ Err c.in_err-metadata.field-0.0 = search rules in
    refusal ∙ search (admit_on, packets_on, room_on, prepared_no, c.in_ok-lent_ready.was, c.in_ok-check_packets.was, c.in_ok-place.was, c.in_err-metadata.was)

pub returns : goal.returns
unfolding store_of bus_of
returns c = search (admit_on, packets_on, room_on, prepared_ready, c.in_ok-lent_ready.was, c.in_ok-check_packets.was, c.in_ok-place.was, c.in_ok-metadata.was)
