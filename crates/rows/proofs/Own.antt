-- Rows whose words are their own: what a put leaves of them, and how a row's own words bring a list back. Assumes nothing.
use Prim.Native.Nat.{ℕ, ◌+◌, ◌-◌, ◌*◌, ◌/◌, ◌<◌, ◌≤◌}
use mathlib.Core.Path.{◌≡◌, refl, sym, ap, ◌∙◌}
use mathlib.Core.List.{List, ◌∷◌}
use mathlib.Core.Logic.{◌⊎◌, inl, inr, ⊎_elim}
use native.Mathlib.Omega.{arith}
use borrow.Author.Tests.{eqb-true, eqb-false}
use lib.Dec.{eqb}
use lib.ListN.{length, get_or, set, drop, replicate, length-replicate, get_or-replicate}
use lib.Seq.{ext_get_or, get_or-set_same, get_or-set_other, set-set, set-get_or}
use Rattle.chain.proofs.Chain.{caseB}
use Rattle.words.specs.Records.{part}
use Rattle.words.proofs.Records.{le_or_lt, part-get_or}
use Rattle.rows.specs.Codec.{read_row, read_metadata, record_of}
use Rattle.rows.specs.Table.{record_words, row_words, row_count, record_at, words_at, words_of, put_words, put_row, empty_row, row_in}
use Rattle.rows.specs.Store.{Store, put_in, emptied, OwnAt}
use Rattle.rows.specs.declared.{Row.Row}
use Rattle.rows.proofs.Rows.{record_length}
use Rattle.rows.proofs.Words.{put-length, words_put, words_kept, word_kept, zero_words}

-- word k, by where it stands beside row i of n
by_word : (n i k : ℕ) (P : Type 0) → (k ≡ i → P) → (k ≡ n + i → P) → (record_at n i ≤ k → k < record_at n i + record_words → P)
    → ((k ≡ i → ⊥) → (k ≡ n + i → ⊥) → (k < record_at n i) ⊎ (record_at n i + record_words ≤ k) → P) → P
by_word n i k P first second own else =
    caseB (eqb k i) (λ e. first (eqb-true k i e))
    (λ e. caseB (eqb k (n + i)) (λ f. second (eqb-true k (n + i) f))
    (λ f. ⊎_elim
    (λ (hi : record_at n i + record_words ≤ k). else (eqb-false k i e) (eqb-false k (n + i) f) (inr hi))
    (λ (hi : k < record_at n i + record_words).
    ⊎_elim (λ (lo : record_at n i ≤ k). own lo hi) (λ (lo : k < record_at n i). else (eqb-false k i e) (eqb-false k (n + i) f) (inl lo)) (le_or_lt (record_at n i) k))
    (le_or_lt (record_at n i + record_words) k)))

-- two lists with the same words of row i
module _ (n i : ℕ) (l m : List ℕ) (e : words_at n l i ≡ words_at n m i) where
  same_first : get_or l i 0 ≡ get_or m i 0
  unfolding words_at
  same_first = ap (λ (w : List ℕ). get_or w 0 0) e

  same_second : get_or l (n + i) 0 ≡ get_or m (n + i) 0
  unfolding words_at
  same_second = ap (λ (w : List ℕ). get_or w 1 0) e

  same_record : part (record_at n i) record_words l ≡ part (record_at n i) record_words m
  unfolding words_at
  same_record = ap (drop 2) e

  same_own : (k : ℕ) → record_at n i ≤ k → k < record_at n i + record_words → get_or l k 0 ≡ get_or m k 0
  same_own k lo hi =
      let j = k - record_at n i in
      let z : record_at n i + j ≡ k = omega arith in
      rw z at
      (sym (part-get_or 0 (record_at n i) record_words l j (omega arith)) ∙ ap (λ (w : List ℕ). get_or w j 0) same_record
      ∙ part-get_or 0 (record_at n i) record_words m j (omega arith))

-- other words of row i, and then its own again
module _ (n : ℕ) (l : List ℕ) (i : ℕ) (inside : i < n) (fits : n * row_words ≤ length l) (s t : ℕ) (p : List ℕ) (sized : length p ≡ record_words)
    (s' t' : ℕ) (p' : List ℕ) (sized' : length p' ≡ record_words) (own : words_at n l i ≡ s ∷ t ∷ p) where
  abbrev other : List ℕ
  other = put_words n l i s' t' p'

  other_length : length other ≡ length l
  other_length = put-length n l i s' t' p' inside fits sized'

  room : n * row_words ≤ length other
  room = rw other_length fits

  pub words_back : put_words n other i s t p ≡ l
  words_back =
      let same : words_at n (put_words n other i s t p) i ≡ words_at n l i = words_put n other i s t p inside room sized ∙ sym own in
      ext_get_or 0 (put_words n other i s t p) l (put-length n other i s t p inside room sized ∙ other_length)
      (λ k hk. by_word n i k (get_or (put_words n other i s t p) k 0 ≡ get_or l k 0)
      (λ z. rw z (same_first n i _ l same)) (λ z. rw z (same_second n i _ l same)) (same_own n i _ l same k)
      (λ a b far. word_kept n other i s t p inside room sized k a b far ∙ word_kept n l i s' t' p' inside fits sized' k a b far))

whole : (l : List ℕ) → row_count l * row_words ≤ length l
unfolding row_count
whole l = omega arith

-- row r put at i
module _ (l : List ℕ) (i : ℕ) (r : Row) (inside : i < row_count l) where
  pub same_length : length (put_row l i r) ≡ length l
  unfolding put_row
  same_length = put-length (row_count l) l i _ _ (record_of r) inside (whole l) (record_length r)

  count_put : row_count (put_row l i r) ≡ row_count l
  unfolding row_count
  count_put = rw same_length

  own_put : words_at (row_count (put_row l i r)) (put_row l i r) i ≡ words_of r
  unfolding put_row
  own_put = rw count_put (words_put (row_count l) l i _ _ (record_of r) inside (whole l) (record_length r))

  own_kept : (j : ℕ) → j < row_count l → (j ≡ i → ⊥) → words_at (row_count (put_row l i r)) (put_row l i r) j ≡ words_at (row_count l) l j
  unfolding put_row
  own_kept j h ne = rw count_put (words_kept (row_count l) l i _ _ (record_of r) inside (whole l) (record_length r) j h ne)

-- in a store
module _ (s : Store) (i : ℕ) (inside : i < row_count s.words) where
  pub put_owns : (r : Row) → i < length s.rows → (j : ℕ) → j < row_count s.words → OwnAt s j → OwnAt (put_in s i r) j
  unfolding put_in
  put_owns r below j h own =
      caseB (eqb j i)
      (λ e. let z = eqb-true j i e in rw (z, get_or-set_same s.rows i r empty_row below) (own_put s.words i r inside))
      (λ e. let z = eqb-false j i e in rw (get_or-set_other s.rows i j r empty_row z) (own_kept s.words i r inside j h z ∙ own))

  -- another row in its place, and then the row again
  pub put_again : (q : Row) → OwnAt s i → put_in (put_in s i q) i (row_in s.rows i) ≡ s
  unfolding put_in put_row
  put_again q own =
      let r = row_in s.rows i in
      let words : put_row (put_row s.words i q) i r ≡ s.words =
      rw (count_put s.words i q inside)
      (words_back (row_count s.words) s.words i inside (whole s.words) _ _ (record_of r) (record_length r) _ _ (record_of q) (record_length q) own) in
      let rows : set (set s.rows i q) i r ≡ s.rows = set-set s.rows i q r ∙ set-get_or s.rows i empty_row in
      rw (words, rows)

-- the free row's own words are 0
empty_own : words_of empty_row ≡ 0 ∷ 0 ∷ replicate record_words 0
unfolding empty_row read_row read_metadata record_of
empty_own = refl

pub emptied_owns : (s : Store) (i : ℕ) → i < row_count s.words → i < length s.rows → OwnAt (emptied s) i
unfolding emptied row_count
emptied_owns s i h below =
    rw (length-replicate {A = ℕ} (length s.words) 0, get_or-replicate (length s.rows) i empty_row empty_row below)
    (zero_words (length s.words / row_words) (length s.words) i h (whole s.words) ∙ sym empty_own)
