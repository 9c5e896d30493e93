-- A paper's events (document 02, M-100): 64 bits each, most significant first. Assumes nothing.
use Rattle.std.specs.Prelude.{ℕ, ◌*◌, ◌/◌, cond, List, [], ◌∷◌, ltb, length, get_or, replicate, Option, Some, None}
use Rattle.words.specs.Records.{part, chunks}
use Rattle.paper.specs.Widths.{fields_of, packed, are_fields}
use Rattle.paper.specs.declared.{PaperEvent.PaperEvent}

-- kind 4, slot 8, endpoint 8, sequence 16, code 8, length 17, flags 3
abbrev pub widths : List ℕ
widths = 4 ∷ 8 ∷ 8 ∷ 16 ∷ 8 ∷ 17 ∷ 3 ∷ []

abbrev pub event_fields : PaperEvent → List ℕ
event_fields e = e.kind ∷ e.slot ∷ e.endpoint ∷ e.sequence ∷ e.code ∷ e.length ∷ e.flags ∷ []

abbrev pub event_by : List ℕ → PaperEvent
event_by l = record {
  kind = get_or l 0 0;
  slot = get_or l 1 0;
  endpoint = get_or l 2 0;
  sequence = get_or l 3 0;
  code = get_or l 4 0;
  length = get_or l 5 0;
  flags = get_or l 6 0;
}

-- the event of a word, and the word of an event whose fields are within their widths
unfoldable pub decoded : ℕ → PaperEvent
decoded n = event_by (fields_of widths n)

unfoldable pub encoded : PaperEvent → Option ℕ
encoded e = cond (are_fields widths (event_fields e)) (Some (packed widths (event_fields e))) None

-- eight bytes are eight fields of eight bits
unfoldable pub word_of : List ℕ → ℕ
word_of bytes = packed (replicate 8 8) bytes

abbrev pub event_in : List ℕ → PaperEvent
event_in bytes = decoded (word_of bytes)

-- how many whole events a paper has, and all of them
abbrev pub event_count : List ℕ → ℕ
event_count paper = length paper / 8

unfoldable pub events_of : List ℕ → List PaperEvent
events_of paper = chunks 0 8 event_in (event_count paper) paper

-- the event at a position
unfoldable pub event_at : List ℕ → ℕ → Option PaperEvent
event_at paper i = cond (ltb i (event_count paper)) (Some (event_in (part (i * 8) 8 paper))) None
