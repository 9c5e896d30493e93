-- A paper's lines: for every list of bytes those that the calls of each event give, made one by one (document 02, M-100). Assumes nothing.
use Rattle.std.specs.Prelude.{ℕ, suc, ◌*◌, cond, List, [], ◌∷◌, ◌++◌, length, Option, Some, None, Result, Ok, Err}
use Rattle.chain.specs.After.{After}
use Rattle.chain.specs.Chain.{◌if◌else◌}
use Rattle.models.specs.declared.{Refusal.Refusal, RequestId.RequestId, RequestReport.RequestReport, RequestState.RequestState}
use Rattle.models.specs.declared.RequestState.TheVariants.{Pending, Completed, Failed, Aborted}
use Rattle.rows.specs.Store.{Store}
use Rattle.session.specs.Lent.{Lent}
use Rattle.session.specs.declared.{Session.Session}
use Rattle.reports.specs.Status.{status_of, held_count_of}
use Rattle.calls.specs.Step.{World, made_on}
use Rattle.paper.specs.Form.{is_refused_size, is_damaged}
use Rattle.paper.specs.Events.{events_of}
use Rattle.paper.specs.declared.{PaperEvent.PaperEvent}
use Rattle.paper_session.specs.Start.{blank_lent, start_on}
use Rattle.marking.specs.Marking.{event_calls, event_marked}
use Rattle.decimal.specs.Text.{decimal, space, newline, appended}
use Rattle.marking.specs.declared.{Marked.Marked}
use Rattle.lines.specs.declared.{Line.Line}

-- P, C, F, A, in ASCII
abbrev pub state_letter : RequestState → ℕ
state_letter (Pending cancel late) = 80
state_letter (Completed actual code cancel) = 67
state_letter (Failed error code quiescent) = 70
state_letter Aborted = 65

-- `-`
abbrev pub no_letter : ℕ
no_letter = 45

abbrev pub letter_by : Result RequestReport Refusal → ℕ
letter_by (Err r) = no_letter
letter_by (Ok x) = state_letter x.state

-- the state of an id, by its status
abbrev pub letter_of : Option RequestId → Session → Store → ℕ
letter_of None s store = no_letter
letter_of (Some id) s store = letter_by (status_of id s store)

abbrev pub held_number : Result ℕ Refusal → ℕ
held_number (Err r) = 0
held_number (Ok n) = n

-- how many rows are held
abbrev pub held_in : Session → Store → ℕ
held_in s store = held_number (held_count_of s store)

-- after an event's calls
unfoldable pub event_line : ℕ → Marked → Store → Line
event_line i m store = record {
  index = i;
  refusal = m.refusal;
  letter = letter_of m.id m.session store;
  held = held_in m.session store;
}

-- ---- the lines of events

abbrev pub marked_line : ℕ → After Marked Lent → Line
marked_line i o = event_line i o.result o.lent.memory.store

-- the first has index i, and its calls leave the world of the next; a damaged event is the last
abbrev pub lines_from : ℕ → List PaperEvent → World → List Line
lines_from i [] w = []
lines_from i (e ∷ es) w =
    marked_line i (event_marked e w) ∷ cond (is_damaged e) [] (lines_from (suc i) es (made_on (event_calls e w) w))

-- of a whole paper, in its own session
abbrev pub lines_of : List ℕ → List Line
lines_of paper = lines_from 0 (events_of paper) (start_on blank_lent)

-- ---- as text

-- index, refusal, letter, held count
unfoldable pub line_text : Line → List ℕ
line_text x =
    decimal x.index ++ (space ∷ (decimal x.refusal ++ (space ∷ x.letter ∷ space ∷ (decimal x.held ++ (newline ∷ [])))))

abbrev pub lines_text : List Line → List ℕ
lines_text [] = []
lines_text (x ∷ xs) = line_text x ++ lines_text xs

-- three numbers of at most 20 digits each, a letter, three spaces and a newline
abbrev pub line_room : ℕ
line_room = 65

-- a paper has at most 8,192 events
abbrev pub text_room : ℕ
text_room = 8192 * line_room

-- the line of a paper of a refused size
abbrev pub refused_text : List ℕ
refused_text = decimal 56 ++ (newline ∷ [])

-- 56 before any event, alone
unfoldable pub key_text : List ℕ → List ℕ
key_text paper = refused_text if is_refused_size (length paper) else lines_text (lines_of paper)

-- ---- the walk over a paper: a world, and a list of bytes with the place where the text in it ends

pub record Walk : Type 0 where
  pub at : World
  pub text : After ℕ (List ℕ)

abbrev pub walk : World → After ℕ (List ℕ) → Walk
walk w text = record { at = w; text = text }

-- event e of index i: its calls, and its line after the text
unfoldable pub event_walked : ℕ → PaperEvent → World → ℕ → List ℕ → Walk
event_walked i e w at l = walk (made_on (event_calls e w) w) (appended (line_text (marked_line i (event_marked e w))) at l)

-- the lines of events after a text
abbrev pub text_from : ℕ → List PaperEvent → World → ℕ → List ℕ → After ℕ (List ℕ)
text_from i es w at l = appended (lines_text (lines_from i es w)) at l
