-- The laws of `read_rows`: where a row's words stand, one row put among the others, and all of them cleared. Assumes nothing.
use Prim.Native.Nat.{ℕ, zero, suc, ◌+◌, ◌-◌, ◌*◌, ◌/◌, ◌<◌, ◌≤◌}
use mathlib.Core.Path.{◌≡◌, refl, sym, ap, ◌∙◌}
use mathlib.Core.List.{List, [], ◌∷◌, append-nil}
use native.Mathlib.Omega.{arith}
use lib.ListN.{length, get_or, set, take, drop, replicate, length-replicate, drop_of_length-le}
use lib.Seq.{get_or-append-add, take_all}
use Rattle.words.specs.Records.{splice, part}
use Rattle.words.proofs.Records.{length-tab, get_or-tab, set-tab, tab_all, part-get_or}
use Rattle.rows.specs.Codec.{read_row, read_metadata, record_of, status_words}
use Rattle.rows.specs.Table.{record_words, row_words, row_count, record_at, words_at, put_words, put_row, read_rows, empty_row, row_at, word_at}
use Rattle.rows.specs.Store.{store_of, put_in, emptied}
use Rattle.rows.specs.declared.{Row.Row, codec.StatusWords.StatusWords}
use Rattle.rows.proofs.Words.{put-length, words_put, words_kept, zero_words}

pub length-read_rows : (l : List ℕ) → length (read_rows l) ≡ row_count l
unfolding read_rows
length-read_rows l = length-tab (λ (i : ℕ). read_row (words_at (row_count l) l i)) (row_count l)

-- row i is inside, and so are its words
pub record Inside (l : List ℕ) (i : ℕ) : Type 0 where
  pub row : i < length l / row_words
  pub whole : length l / row_words * row_words ≤ length l
  pub words : record_at (length l / row_words) i + record_words ≤ length l

pub inside : (l : List ℕ) (i : ℕ) → i < length (read_rows l) → Inside l i
unfolding row_count
inside l i h = let e = length-read_rows l in record { row = omega arith; whole = omega arith; words = omega arith }

pub row_is : (l : List ℕ) (i : ℕ) → i < length (read_rows l) → read_row (words_at (row_count l) l i) ≡ row_at l i
unfolding read_rows
row_is l i h = sym (get_or-tab (λ (k : ℕ). read_row (words_at (row_count l) l k)) (row_count l) i empty_row (rw length-tab at h))

-- word k of row i, in a column and in the record
pub column_in : (l : List ℕ) (i k : ℕ) → i < length (read_rows l) → k < 2 → length l / row_words * k + i < length l
column_in l i zero h g = omega (arith, inside l i h)
column_in l i (suc zero) h g = omega (arith, inside l i h)
column_in l i (suc (suc k)) h g = absurd (omega arith)

pub column_is : (l : List ℕ) (i k : ℕ) → i < length (read_rows l) → k < 2 → get_or l (length l / row_words * k + i) 0 ≡ word_at l i k
unfolding row_count words_at
column_is l i zero h g = let e : length l / row_words * 0 + i ≡ i = omega arith in rw e
column_is l i (suc zero) h g = let e : length l / row_words * 1 + i ≡ length l / row_words + i = omega arith in rw e
column_is l i (suc (suc k)) h g = absurd (omega arith)

pub field_is : (l : List ℕ) (i k at : ℕ) → k < record_words → at ≡ record_at (row_count l) i → get_or l (at + k) 0 ≡ word_at l i (2 + k)
unfolding row_count words_at
field_is l i k at g e =
    let n = length l / row_words in
    let p = part (record_at n i) record_words l in
    rw e (sym (get_or-append-add (get_or l i 0 ∷ get_or l (n + i) 0 ∷ []) p k 0 ∙ part-get_or 0 (record_at n i) record_words l k g))

-- the record of row i, as `&rows[at..end]` says it
pub row_at_lem : (l : List ℕ) (i s t at : ℕ) → i < length (read_rows l) → s ≡ word_at l i 0 → t ≡ word_at l i 1 → at ≡ record_at (row_count l) i
    → read_row (s ∷ t ∷ take (at + record_words - at) (drop at l)) ≡ row_at l i
unfolding words_at part
row_at_lem l i s t at h es et ea =
    let e : at + record_words - at ≡ record_words = omega arith in
    rw (e, es, et, ea) (row_is l i h)

-- row r put at i by its words
module _ (l : List ℕ) (i s t : ℕ) (p : List ℕ) (r : Row) (h : i < length (read_rows l)) (e : length p ≡ record_words) (d : read_row (s ∷ t ∷ p) ≡ r) where
  abbrev many : ℕ
  many = row_count l

  below : i < many
  below = rw length-read_rows at h

  fits : many * row_words ≤ length l
  unfolding row_count
  fits = (inside l i h).whole

  count_put : row_count (put_words many l i s t p) ≡ many
  unfolding row_count
  count_put = rw (put-length many l i s t p below fits e)

  rows_put : read_rows (put_words many l i s t p) ≡ set (read_rows l) i r
  unfolding read_rows
  rows_put = rw count_put
      (set-tab (λ (j : ℕ). read_row (words_at many l j)) (λ (j : ℕ). read_row (words_at many (put_words many l i s t p) j)) many i r below
      (ap read_row (words_put many l i s t p below fits e) ∙ d) (λ j hj ne. ap read_row (words_kept many l i s t p below fits e j hj ne)))

pub record_length : (r : Row) → length (record_of r) ≡ record_words
unfolding record_of
record_length r = refl

-- what `write_row` does: the columns, then the record
pub put_row_lem : (l m x : List ℕ) (i at : ℕ) (z : StatusWords) (w : List ℕ) (r : Row) → i < length (read_rows l) → at ≡ record_at (row_count l) i
    → z ≡ status_words r.used r.state → read_row (r.id.sequence ∷ z.status ∷ w) ≡ r → w ≡ record_of r
    → m ≡ set (set l i r.id.sequence) (length l / row_words + i) z.status → x ≡ splice at (take record_words w) m
    → store_of x ≡ put_in (store_of l) i r
unfolding store_of put_in put_row put_words row_count
put_row_lem l m x i at z w r h ea hz d hw em ex =
    let sized : length w ≡ record_words = ap length hw ∙ record_length r in
    let e1 : x ≡ put_words (row_count l) l i r.id.sequence z.status w = ex ∙ rw (take_all record_words w (omega arith), em, ea) in
    let e2 : put_words (row_count l) l i r.id.sequence z.status w ≡ put_row l i r = rw (hz, hw) in
    let e3 : read_rows x ≡ set (read_rows l) i r = ap read_rows e1 ∙ rows_put l i r.id.sequence z.status w r h sized d in
    rw (e3, e1 ∙ e2)

-- the free row's words
pub empty_is : read_row (0 ∷ 0 ∷ replicate record_words 0) ≡ empty_row
unfolding read_row read_metadata empty_row
empty_is = refl

-- every word 0: every row free
free_row : (n w i : ℕ) → i < n → n * row_words ≤ w → read_row (words_at n (replicate w 0) i) ≡ empty_row
free_row n w i h room = ap read_row (zero_words n w i h room) ∙ empty_is

rows_cleared : (l : List ℕ) → read_rows (replicate (length l) 0) ≡ replicate (length (read_rows l)) empty_row
unfolding read_rows row_count
rows_cleared l =
    rw (length-tab (λ (i : ℕ). read_row (words_at (length l / row_words) l i)) (length l / row_words), length-replicate {A = ℕ} (length l) 0)
    (tab_all (λ (i : ℕ). read_row (words_at (length l / row_words) (replicate (length l) 0) i)) (length l / row_words) empty_row
    (λ j h. free_row (length l / row_words) (length l) j h (omega arith)))

pub cleared : (l m : List ℕ) → m ≡ splice 0 (replicate (length l) 0) l → store_of m ≡ emptied (store_of l)
unfolding store_of emptied splice
cleared l m e =
    let zeros : List ℕ = replicate (length l) 0 in
    let whole : length l ≤ 0 + length zeros = omega (arith, length-replicate {A = ℕ} (length l) 0) in
    let past : drop (0 + length zeros) l ≡ [] = drop_of_length-le l whole in
    let all : m ≡ zeros = e ∙ rw past (append-nil zeros) in
    rw (all, rows_cleared l)
