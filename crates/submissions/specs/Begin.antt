-- The end of every submission (document 01, "Added by design", and the places capacity, device, not control and ledger of its table).
-- Assumes nothing.
use Rattle.std.specs.Prelude.{ℕ, ◌+◌, ◌<◌, ◌≤◌, List, ◌≡◌, leb, length, replicate, Option, None, Result, Ok, Err, ⊤}
use Rattle.chain.specs.After.{After, after}
use Rattle.chain.specs.Chain.{◌if◌else◌}
use Rattle.chain.specs.Lists.{count, found_in}
use Rattle.words.specs.Records.{splice}
use Rattle.models.specs.Kinds.{is_in}
use Rattle.models.specs.Requests.{held_most}
use Rattle.models.specs.declared.{Refusal.Refusal, RequestId.RequestId, RequestMetadata.RequestMetadata}
use Rattle.rows.specs.Table.{is_held, read_rows}
use Rattle.rows.specs.Store.{put_in}
use Rattle.rows.specs.declared.{Row.Row}
use Rattle.ledger.specs.Search.{is_free}
use Rattle.rules.specs.Rules.{pending_row, spend_sequence}
use Rattle.bus.specs.Layout.{bus_words}
use Rattle.bus.specs.Tables.{Bus}
use Rattle.targets.specs.Target.{check_target}
use Rattle.targets.specs.declared.{Readings.Readings}
use Rattle.session.specs.Session.{is_initialized}
use Rattle.session.specs.Session as session
use Rattle.session.specs.Lent.{Memory, Lent, memory, lent}
use Rattle.session.specs.declared.{Called.Called, Session.Session, sizes.Place.Place}
use Rattle.submissions.specs.declared.{begin.Start.Start}
use Rattle.session.specs.Called.{call_refused}

-- the first row without a request, unless as many are held as may be
unfoldable pub room_in : List Row → Option ℕ
room_in rows = None if leb held_most (count is_held rows) else found_in is_free rows

abbrev pub new_id : Session → RequestId
new_id s = record { session = s.number; generation = s.generation; sequence = s.next_sequence }

-- the buffer: zeros of the length for IN, the data for OUT; it is written to the row's first bytes
abbrev pub buffer_of : RequestMetadata → List ℕ → List ℕ
buffer_of m bytes = replicate m.requested_length 0 if is_in m.direction else bytes

unfoldable pub write_of : ℕ → RequestMetadata → List ℕ → List ℕ → List ℕ
write_of start m bytes area = splice start (buffer_of m bytes) area

-- an admitted request, with its row's place and its data
pub record Draft : Type 0 where
  pub place : Place
  pub metadata : RequestMetadata
  pub bytes : List ℕ

abbrev pub draft : Place → RequestMetadata → List ℕ → Draft
draft p m bytes = record { place = p; metadata = m; bytes = bytes }

-- what the lent words and bytes have room for: the row is one of theirs, and its part of the area holds the request and its data
pub record Placed (d : Draft) (bus rows area : List ℕ) : Type 0 where
  pub tables : length bus ≡ bus_words
  pub row : d.place.row < length (read_rows rows)
  pub buffer : d.place.start + d.metadata.requested_length ≤ length area
  pub payload : d.place.start + length d.bytes ≤ length area

-- the number is spent, the row holds the request and its bytes the buffer
abbrev pub begun : ℕ → Draft → Session → Memory → After (Called Start) Memory
begun next d s m =
    after
    (record { answer = Ok (record { id = (new_id s); row = d.place.row }); session = session.spent s next (new_id s) })
    (memory (put_in m.store d.place.row (pending_row (new_id s) d.metadata)) (write_of d.place.start d.metadata d.bytes m.area))

-- 39
unfoldable pub begin_of : Draft → Session → Memory → After (Called Start) Memory
begin_of d s m =
    elim (spend_sequence s.next_sequence) [
      | Err r ↦ after (call_refused s r) m
      | Ok next ↦ begun next d s m
    ]

abbrev pub with_bus : Bus → After (Called Start) Memory → After (Called Start) Lent
with_bus b o = after o.result (lent b o.lent)

unfoldable pub target_by : Result ⊤ Refusal → Draft → Session → Lent → After (Called Start) Lent
target_by (Err r) d s l = after (call_refused s r) l
target_by (Ok tt) d s l = with_bus l.bus (begin_of d s l.memory)

-- 26 to 37, 58, 38, then 39; readings taken before a refusal stay written
unfoldable pub target_of : Draft → Readings → Session → Lent → After (Called Start) Lent
target_of d x s l =
    let seen = check_target (is_initialized s.state) s.ports d.metadata x l.bus in
    target_by seen.result d s (lent seen.lent l.memory)
