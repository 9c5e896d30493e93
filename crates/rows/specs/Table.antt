-- Rows in a list of words: of n rows first the n sequences, then the n status words, then the n records; words past the last whole
-- row say nothing. Assumes nothing.
use Rattle.std.specs.Prelude.{ℕ, ◌+◌, ◌*◌, ◌/◌, Bool, ◌&&◌, List, [], ◌∷◌, length, get_or, set}
use Rattle.words.specs.Records.{tab, splice, part}
use Rattle.models.specs.Requests.{device_may_access, is_pending, is_uncertain_failure}
use Rattle.models.specs.declared.{RequestId.RequestId, RequestReport.RequestReport, RequestState.RequestState}
use Rattle.models.specs.declared.RequestState.TheVariants.{Pending}
use Rattle.rows.specs.Codec.{read_row, record_of, status_words}
use Rattle.rows.specs.declared.{Row.Row}

-- how many words of a row stand in columns, how many in its record, and how many it has
abbrev pub column_words : ℕ
column_words = 2

abbrev pub record_words : ℕ
record_words = 24

abbrev pub row_words : ℕ
row_words = column_words + record_words

unfoldable pub row_count : List ℕ → ℕ
row_count l = length l / row_words

-- how many rows a scan passes at once
abbrev pub block_rows : ℕ
block_rows = 64

-- where the record of row i of n starts
abbrev pub record_at : ℕ → ℕ → ℕ
record_at n i = n * column_words + i * record_words

-- the words of row i of n
unfoldable pub words_at : ℕ → List ℕ → ℕ → List ℕ
words_at n l i = get_or l i 0 ∷ get_or l (n + i) 0 ∷ part (record_at n i) record_words l

-- the words that say a row
abbrev pub words_of : Row → List ℕ
words_of r = r.id.sequence ∷ (status_words r.used r.state).status ∷ record_of r

-- word k of row i
abbrev pub word_at : List ℕ → ℕ → ℕ → ℕ
word_at l i k = get_or (words_at (row_count l) l i) k 0

unfoldable pub read_rows : List ℕ → List Row
read_rows l = tab (λ (i : ℕ). read_row (words_at (row_count l) l i)) (row_count l)

-- l with the words s, t and the record p as those of row i of n
unfoldable pub put_words : ℕ → List ℕ → ℕ → ℕ → ℕ → List ℕ → List ℕ
put_words n l i s t p = splice (record_at n i) p (set (set l i s) (n + i) t)

-- the words with the row r put at i
unfoldable pub put_row : List ℕ → ℕ → Row → List ℕ
put_row l i r = put_words (row_count l) l i r.id.sequence (status_words r.used r.state).status (record_of r)

-- the free row, whose words are all 0
unfoldable pub empty_row : Row
empty_row = read_row []

-- row i, and its id and token; outside, those of the free row
abbrev pub row_in : List Row → ℕ → Row
row_in rows i = get_or rows i empty_row

abbrev pub id_in : List Row → ℕ → RequestId
id_in rows i = (row_in rows i).id

abbrev pub token_in : List Row → ℕ → ℕ
token_in rows i = (row_in rows i).token

-- row i of the words
abbrev pub row_at : List ℕ → ℕ → Row
row_at l i = row_in (read_rows l) i

-- document 01's "held" row: the controller may still write to its bytes
unfoldable pub is_held : Row → Bool
is_held r = r.used && device_may_access r.state

-- a row that is Failed and not quiescent
unfoldable pub is_uncertain : Row → Bool
is_uncertain r = r.used && is_uncertain_failure r.state

-- a request that is Pending
unfoldable pub is_pending_row : Row → Bool
is_pending_row r = r.used && is_pending r.state

-- what is reported of a row
abbrev pub report_of : Row → RequestReport
report_of r = record { id = r.id; metadata = r.metadata; state = r.state; logical_cancel = r.logical_cancel; timed_out = r.timed_out }

abbrev pub with_token : Row → ℕ → Row
with_token r token = record {
  used = r.used;
  id = r.id;
  metadata = r.metadata;
  token = token;
  logical_cancel = r.logical_cancel;
  timed_out = r.timed_out;
  state = r.state;
}

-- with another state, and c and t as the row's own copies of the flags
abbrev pub restated : Row → Bool → Bool → RequestState → Row
restated r c t state = record {
  used = r.used;
  id = r.id;
  metadata = r.metadata;
  token = r.token;
  logical_cancel = c;
  timed_out = t;
  state = state;
}

abbrev pub with_state : Row → RequestState → Row
with_state r state = restated r r.logical_cancel r.timed_out state

-- Pending with the flags sc and st in its state
abbrev pub flagged : Row → Bool → Bool → Bool → Bool → Row
flagged r sc st c t = restated r c t (Pending sc st)
