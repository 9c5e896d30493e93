-- Reports, completed bytes and tallies (document 01, "State row" and "Request row"). Assumes nothing.
use Rattle.std.specs.Prelude.{ℕ, ◌*◌, min, Bool, true, false, not, ◌&&◌, List, [], ◌∷◌, length, get_or, take, drop, Option, Some, None, Result, Ok, Err}
use Rattle.chain.specs.Chain.{◌if◌else◌}
use Rattle.chain.specs.Lists.{count, found_in}
use Rattle.models.specs.Refusals.{refusal_of}
use Rattle.models.specs.Requests.{same_request, request_before}
use Rattle.models.specs.declared.{Refusal.Refusal, RequestId.RequestId, RequestReport.RequestReport, RequestState.RequestState}
use Rattle.models.specs.declared.RequestState.TheVariants.{Pending, Completed, Failed, Aborted}
use Rattle.rows.specs.Table.{empty_row, row_in}
use Rattle.rows.specs.Store.{Store}
use Rattle.rows.specs.declared.{Row.Row}
use Rattle.rules.specs.Rules.{report_of}
use Rattle.ledger.specs.Search.{is_at}
use Rattle.ledger.specs.Tally.{held_count, held_bytes}
use Rattle.session.specs.Lent.{store_fits}
use Rattle.session.specs.Sizes.{memory_sizes}
use Rattle.session.specs.declared.{InFlight.InFlight, Session.Session}
use Rattle.reports.specs.declared.{Part.Part}

-- until its reply a submission's id has no report
abbrev pub is_submitting : InFlight → RequestId → Bool
is_submitting InFlight.Nothing id = false
is_submitting (InFlight.Submission own) id = same_request own id
is_submitting (InFlight.Poll own) id = false
is_submitting (InFlight.Recovery x) id = false

-- the row of an id that has a report
unfoldable pub shown_at : InFlight → RequestId → List Row → Option ℕ
shown_at f id rows = None if is_submitting f id else found_in (is_at id) rows

-- 40
unfoldable pub status_by : Option ℕ → List Row → Result RequestReport Refusal
status_by None rows = Err (refusal_of 40)
status_by (Some i) rows = Ok (report_of (get_or rows i empty_row))

-- 3
unfoldable pub status_of : RequestId → Session → Store → Result RequestReport Refusal
status_of id s store =
    Err (refusal_of 3) if not (store_fits s.size store) else
    status_by (shown_at s.in_flight id store.rows) store.rows

-- a request that has a report
unfoldable pub is_shown : InFlight → Row → Bool
is_shown f r = r.used && not (is_submitting f r.id)

-- reports run by ascending id: the first, or the first after an id
abbrev pub comes_after : Option RequestId → RequestId → Bool
comes_after None id = true
comes_after (Some own) id = request_before own id

-- whether the id comes before the best so far
abbrev pub beats : Option RequestReport → RequestId → Bool
beats None id = true
beats (Some best) id = request_before id best.id

-- whether the row has a report, after the id and before the best so far
abbrev pub is_better : InFlight → Option RequestId → Option RequestReport → Row → Bool
is_better f after best r = is_shown f r && comes_after after r.id && beats best r.id

unfoldable pub better : InFlight → Option RequestId → Option RequestReport → Row → Option RequestReport
better f after best r = Some (report_of r) if is_better f after best r else best

abbrev pub best_from : InFlight → Option RequestId → Option RequestReport → List Row → Option RequestReport
best_from f after best [] = best
best_from f after best (r ∷ rows) = best_from f after (better f after best r) rows

-- the same by places, for a scan that reads no row whole: the report of a place, and the better place
abbrev pub report_at : Option ℕ → List Row → Option RequestReport
report_at (Some i) rows = Some (report_of (row_in rows i))
report_at None rows = None

unfoldable pub better_at : InFlight → Option RequestId → List Row → Option ℕ → ℕ → Option ℕ
better_at f after rows best i = Some i if is_better f after (report_at best rows) (row_in rows i) else best

unfoldable pub next_of : Option RequestId → Session → Store → Result (Option RequestReport) Refusal
next_of from s store =
    Err (refusal_of 3) if not (store_fits s.size store) else
    Ok (best_from s.in_flight from None store.rows)

-- how many requests have a report
unfoldable pub shown_count : Session → Store → Result ℕ Refusal
shown_count s store =
    Err (refusal_of 3) if not (store_fits s.size store) else
    Ok (count (is_shown s.in_flight) store.rows)

-- the actual length of a Completed request, else 0
abbrev pub completed_length : RequestState → ℕ
completed_length (Pending cancel late) = 0
completed_length (Completed actual code cancel) = actual
completed_length (Failed error code quiescent) = 0
completed_length Aborted = 0

abbrev pub bytes_part : ℕ → ℕ → Part
bytes_part start length = record { start = start; length = length }

-- 40; the first actual-length bytes of the id's row, cut at its end, and none unless it is Completed now
unfoldable pub part_by : Option ℕ → ℕ → List Row → Result Part Refusal
part_by None room rows = Err (refusal_of 40)
part_by (Some i) room rows = Ok (bytes_part (i * room) (min (completed_length (get_or rows i empty_row).state) room))

-- 3; `size` is the area's
unfoldable pub completed_part : RequestId → ℕ → Session → Store → Result Part Refusal
completed_part id size s store =
    Err (refusal_of 3) if not (memory_sizes s.size (length store.words) size) else
    part_by (shown_at s.in_flight id store.rows) s.size.row_bytes store.rows

-- the lent form: no bytes where it is refused
abbrev pub part_of : Result Part Refusal → Part
part_of (Err r) = bytes_part 0 0
part_of (Ok p) = p

unfoldable pub bytes_of : Result Part Refusal → List ℕ → List ℕ
bytes_of a area = take (part_of a).length (drop (part_of a).start area)

-- in eight bits (document 02, M-130)
unfoldable pub held_count_of : Session → Store → Result ℕ Refusal
held_count_of s store = Err (refusal_of 3) if not (store_fits s.size store) else Ok (held_count 8 store.rows)

-- the held count as any number of the store's
abbrev pub tally_of : Result ℕ Refusal → Result ℕ Refusal
tally_of (Err r) = Err r
tally_of (Ok n) = Ok n

unfoldable pub held_bytes_of : Session → Store → Result ℕ Refusal
held_bytes_of s store = Err (refusal_of 3) if not (store_fits s.size store) else Ok (held_bytes 64 store.rows)
