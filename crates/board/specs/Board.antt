-- The board's column. For every paper and each line of its key: the held count is the number of the book's lines without a release, the book being
-- kept by the history of the calls of the events so far; a letter other than `-` is the state of the row that has the event's id; and `-` says that no
-- row has it. Each event has its line, up to the first that is damaged. Assumes nothing.
use Rattle.std.specs.Prelude.{ℕ, ◌<◌, true, false, List, [], ◌∷◌, ◌++◌, map, ◌≡◌, length, Option, Some}
use Rattle.chain.specs.Lists.{count, any_in}
use Rattle.models.specs.declared.{RequestId.RequestId}
use Rattle.rows.specs.Table.{row_in}
use Rattle.rows.specs.declared.{Row.Row}
use Rattle.ledger.specs.Search.{is_at}
use Rattle.calls.specs.Calls.{Call, Open}
use Rattle.calls.specs.Step.{World, world, step_of, next, made_on, no_session}
use Rattle.runs.specs.Run.{Event, calls, end_of}
use Rattle.history.specs.Journal.{Entry, is_open}
use Rattle.history.specs.Claim.{rows_after, entries_after}
use Rattle.paper.specs.Events.{events_of}
use Rattle.paper.specs.Form.{is_damaged}
use Rattle.paper.specs.declared.{PaperEvent.PaperEvent}
use Rattle.paper_session.specs.Start.{paper_opening, ready_calls, slots_calls, start_on, blank_lent}
use Rattle.marking.specs.Marking.{event_calls, event_marked}
use Rattle.lines.specs.Lines.{state_letter, no_letter, lines_of}
use Rattle.lines.specs.declared.{Line.Line}

-- ---- a paper's calls

-- those of events, made one after the other from a world on
abbrev pub events_calls : List PaperEvent → World → List Call
events_calls [] w = []
events_calls (e ∷ es) w = event_calls e w ++ events_calls es (made_on (event_calls e w) w)

-- after the opening: those that make the session ready, those of every slot, those of the events
abbrev pub paper_calls : List PaperEvent → List Call
paper_calls es = ready_calls ++ (slots_calls 256 ++ events_calls es (start_on blank_lent))

-- what the opening leaves
abbrev pub opened : World
opened = next (step_of (Open paper_opening) (world no_session blank_lent))

-- each is handed what the one before it left
abbrev pub paper_run : List PaperEvent → List Event
paper_run es = map calls (paper_calls es)

-- ---- what events lead to

-- the book's lines: by the history of all calls, which has each with its answer. No row is read
abbrev pub book_of : List PaperEvent → List Entry
book_of es = entries_after opened (paper_run es)

abbrev pub rows_of : List PaperEvent → List Row
rows_of es = rows_after opened (paper_run es)

-- the id whose state is shown of event e, which comes after the others: a submission's new id, any other's own
abbrev pub id_of : List PaperEvent → PaperEvent → Option RequestId
id_of before e = (event_marked e (end_of opened (paper_run before))).result.id

-- ---- the sentence

-- a letter is that of the state of the row that has the id
pub record RowShown (id : RequestId) (letter : ℕ) (rows : List Row) : Type 0 where
  pub index : ℕ
  pub below : index < length rows
  pub own : is_at id (row_in rows index) ≡ true
  pub state : letter ≡ state_letter (row_in rows index).state

-- the line of event e, which comes after the others
pub record LineSays (before : List PaperEvent) (e : PaperEvent) (line : Line) : Type 0 where
  pub held : line.held ≡ count is_open (book_of (before ++ (e ∷ [])))
  pub letter : (line.letter ≡ no_letter → ⊥) → (id : RequestId) × (id_of before e ≡ Some id) × RowShown id line.letter (rows_of (before ++ (e ∷ [])))
  -- no row has the id
  pub dash : line.letter ≡ no_letter → (id : RequestId) → id_of before e ≡ Some id → any_in (is_at id) (rows_of (before ++ (e ∷ []))) ≡ false

pub record BoardSays (paper : List ℕ) : Type 0 where
  -- each line of the key, with the event that stands in the paper where it stands in the key
  pub says : (before after : List PaperEvent) (e : PaperEvent) (front back : List Line) (line : Line) → events_of paper ≡ before ++ (e ∷ after)
      → lines_of paper ≡ front ++ (line ∷ back) → length front ≡ length before → LineSays before e line
  -- and each event has its line, up to the first that is damaged
  pub every : (before after : List PaperEvent) (e : PaperEvent) → events_of paper ≡ before ++ (e ∷ after) → count is_damaged before ≡ 0 → length before < length (lines_of paper)
