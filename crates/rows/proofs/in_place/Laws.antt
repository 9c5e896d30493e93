-- Laws of rows in place: a record's words made anew, and a row put with its column words as they are. Assumes nothing.
use Prim.Native.Nat.{ℕ, ◌+◌, ◌-◌, ◌/◌, ◌%◌, ◌<◌, ◌^◌}
use mathlib.Core.Path.{◌≡◌, refl, sym, ap, ◌∙◌}
use mathlib.Core.Bool.{Bool, true, false}
use mathlib.Core.List.{List, [], ◌∷◌}
use native.Mathlib.Omega.{arith}
use lib.ListN.{length, get_or, set, take, drop, replicate}
use lib.Seq.{get_or-take, get_or-drop, set-get_or}
use lib.Dec.{eqb}
use borrow.Author.Tests.{eqb-true}
use Rattle.chain.proofs.Chain.{caseB}
use Rattle.words.specs.Words.{read_flag, flag_word}
use Rattle.words.specs.Records.{splice}
use Rattle.words.proofs.Options.{low, flag_back}
use Rattle.models.specs.Codes.{read_transfer, transfer_word, read_direction, direction_word}
use Rattle.models.specs.Values.{setup_words, setup_tail, metadata_tail}
use Rattle.models.specs.declared.{RequestMetadata.RequestMetadata, RequestState.RequestState, SetupWords.SetupWords}
use Rattle.models.specs.declared.RequestState.TheVariants.{Pending, Completed}
use Rattle.models.proofs.Enums.{transfer_back, direction_back}
use Rattle.rows.specs.Codec.{read_setup_words, setup_in, read_metadata, state_by_kind, kind_by, state_in, state_words, status_words, status_tail, read_row, record_of}
use Rattle.rows.specs.Table.{record_words, row_words, row_count, record_at, words_at, word_at, read_rows, row_at, empty_row, is_pending_row, report_of, with_token, restated, with_state, flagged}
use Rattle.rows.specs.Store.{store_of, put_in}
use Rattle.rows.specs.Values.{state_tail, report_values}
use Rattle.rows.specs.InPlace.{setup_at, state_at, cancel_in, cancelled, timed_out, completed_row}
use Rattle.rows.specs.declared.{Row.Row, codec.StateWords.StateWords, codec.StatusWords.StatusWords}
use Rattle.rows.proofs.Rows.{row_is, row_at_lem, put_row_lem}
use Rattle.rows.proofs.columns.Laws.{pending_is}

-- the metadata, by the words of the whole record
meta_word : (w : List ℕ) (k : ℕ) → k < 13 → get_or (take 13 (drop 2 w)) k 0 ≡ get_or w (2 + k) 0
meta_word w k h = get_or-take 13 (drop 2 w) k 0 h ∙ get_or-drop 2 w k 0

metadata_is : (w : List ℕ) → read_metadata (take 13 (drop 2 w)) ≡ record {
  device = record { session = get_or w 2 0; generation = get_or w 3 0; slot = get_or w 4 0 % 2 ^ 8 };
  endpoint = get_or w 5 0 % 2 ^ 8;
  transfer_type = read_transfer (get_or w 6 0);
  direction = read_direction (get_or w 7 0);
  requested_length = get_or w 8 0;
  setup = read_setup_words (get_or w 9 0) (get_or w 10 0) (get_or w 11 0) (get_or w 12 0) (get_or w 13 0) (get_or w 14 0);
}
unfolding read_metadata
metadata_is w =
    let m = meta_word w in
    rw (
      m 0 (omega arith),
      m 1 (omega arith),
      m 2 (omega arith),
      m 3 (omega arith),
      m 4 (omega arith),
      m 5 (omega arith),
      m 6 (omega arith),
      m 7 (omega arith),
      m 8 (omega arith),
      m 9 (omega arith),
      m 10 (omega arith),
      m 11 (omega arith),
      m 12 (omega arith),
    )

pub setup_is : (w : List ℕ) → read_setup_words (get_or w 9 0) (get_or w 10 0) (get_or w 11 0) (get_or w 12 0) (get_or w 13 0) (get_or w 14 0) ≡ setup_at w
unfolding read_row
setup_is w = ap (λ (m : RequestMetadata). m.setup) (sym (metadata_is w))

module _ (w : List ℕ) (y d : ℕ) (p : SetupWords) (ey : y ≡ transfer_word (read_transfer (get_or w 6 0))) (ed : d ≡ direction_word (read_direction (get_or w 7 0)))
    (ep : p ≡ setup_words (setup_at w)) where
  -- the metadata's words made anew
  abbrev meta_tail : List ℕ → List ℕ
  meta_tail rest = get_or w 2 0 ∷ get_or w 3 0 ∷ get_or w 4 0 % 2 ^ 8 ∷ get_or w 5 0 % 2 ^ 8 ∷ y ∷ d ∷ get_or w 8 0 ∷ setup_tail p rest

  meta_anew : (rest : List ℕ) → meta_tail rest ≡ metadata_tail (read_metadata (take 13 (drop 2 w))) rest
  meta_anew rest = rw (metadata_is w, setup_is w, ey, ed, ep)

  pub values_are : (s t a b : ℕ) (z : StateWords) → z ≡ state_words (state_at t w) → a ≡ flag_word (read_flag (get_or w 16 0)) → b ≡ flag_word (read_flag (get_or w 17 0))
      → (get_or w 0 0 ∷ get_or w 1 0 ∷ s ∷ meta_tail (state_tail z (a ∷ b ∷ []))) ≡ report_values (report_of (read_row (s ∷ t ∷ w)))
  unfolding read_row
  values_are s t a b z ez ea eb = rw (meta_anew (state_tail z (a ∷ b ∷ [])), ez, ea, eb)

  pub record_is : (token : ℕ) (c t : Bool) (state : RequestState) (cw tw : ℕ) (z : StatusWords) → cw ≡ flag_word c → tw ≡ flag_word t → z ≡ status_words true state
      → (get_or w 0 0 ∷ get_or w 1 0 ∷ meta_tail (token ∷ cw ∷ tw ∷ status_tail z)) ≡ record_of (restated (with_token (read_row (0 ∷ 1 ∷ w)) token) c t state)
  unfolding read_row record_of
  record_is token c t state cw tw z ec et ez = rw (meta_anew (token ∷ cw ∷ tw ∷ status_tail z), ec, et, ez)

-- a row read back from its record
low_twice : (k v : ℕ) → v % 2 ^ k < 2 ^ k → v % 2 ^ k % 2 ^ k ≡ v % 2 ^ k
low_twice k v h = low k {v = v % 2 ^ k} h

setup_back : (p a b c d e : ℕ) → setup_in (setup_words (read_setup_words p a b c d e)) ≡ read_setup_words p a b c d e
setup_back p a b c d e =
    caseB (eqb p 0) (λ y. rw y)
    (λ y. rw y (simp (low_twice 8 a (omega arith), low_twice 8 b (omega arith), low_twice 16 c (omega arith), low_twice 16 d (omega arith), low_twice 16 e (omega arith))))

metadata_back : (w : List ℕ) → read_metadata (metadata_tail (read_metadata (take 13 (drop 2 w))) []) ≡ read_metadata (take 13 (drop 2 w))
unfolding read_metadata
metadata_back w =
    let m = read_metadata (take 13 (drop 2 w)) in
    let v = take 13 (drop 2 w) in
    simp (
      transfer_back m.transfer_type,
      direction_back m.direction,
      low_twice 8 (get_or v 2 0) (omega arith),
      low_twice 8 (get_or v 3 0) (omega arith),
      setup_back (get_or v 7 0) (get_or v 8 0) (get_or v 9 0) (get_or v 10 0) (get_or v 11 0) (get_or v 12 0),
    )

-- its status and its state are read back
record Back (state : RequestState) (z : StatusWords) : Type 0 where
  words : z ≡ status_words true state
  used : read_flag z.status ≡ true
  same : state_in z ≡ state

row_back : (s token : ℕ) (w : List ℕ) (c t : Bool) (state : RequestState) (z : StatusWords) → Back state z
    → read_row (s ∷ z.status ∷ record_of (restated (with_token (read_row (s ∷ 1 ∷ w)) token) c t state)) ≡ restated (with_token (read_row (s ∷ 1 ∷ w)) token) c t state
unfolding read_row record_of
row_back s token w c t state z b =
    let r = restated (with_token (read_row (s ∷ 1 ∷ w)) token) c t state in
    let same : state_in (status_words true state) ≡ state = ap state_in (sym b.words) ∙ b.same in
    let own : state_by_kind (kind_by z.status (status_words true state).rest) (status_words true state).a (status_words true state).b (status_words true state).d
    (status_words true state).e (status_words true state).f ≡ state
    = ap (λ (y : StatusWords). state_by_kind (kind_by y.status (status_words true state).rest) (status_words true state).a (status_words true state).b
    (status_words true state).d (status_words true state).e (status_words true state).f) b.words ∙ same in
    λ k. record {
      used = b.used k;
      id = r.id;
      metadata = metadata_back w k;
      token = token;
      logical_cancel = flag_back c k;
      timed_out = flag_back t k;
      state = own k;
    }

-- those of a Pending one
pending_back : (sc st : Bool) → Back (Pending sc st) (status_words true (Pending sc st))
pending_back sc st = record { words = refl; used = refl; same = simp (flag_back sc, flag_back st) }

-- ---- what the functions do
pub cancelled_is : (w r : List ℕ) (late own : Bool) (y : RequestState) → y ≡ Pending true late → late ≡ read_flag (get_or w 19 0) → own ≡ read_flag (get_or w 17 0)
    → r ≡ record_of (restated (with_token (read_row (0 ∷ 1 ∷ w)) (get_or w 15 0)) true own y) → r ≡ record_of (cancelled (read_row (0 ∷ 1 ∷ w)))
unfolding read_row cancelled
cancelled_is w r late own y ey el eo e = rw (ey, el, eo) at e

pub timed_out_is : (w r : List ℕ) (cancel own : Bool) (y : RequestState) → y ≡ Pending cancel true → cancel ≡ read_flag (get_or w 18 0) → own ≡ read_flag (get_or w 16 0)
    → r ≡ record_of (restated (with_token (read_row (0 ∷ 1 ∷ w)) (get_or w 15 0)) own true y) → r ≡ record_of (timed_out (read_row (0 ∷ 1 ∷ w)))
unfolding read_row timed_out
timed_out_is w r cancel own y ey ec eo e = rw (ey, ec, eo) at e

pub accepted_is : (w r : List ℕ) (token : ℕ) (sc st c t : Bool) (y : RequestState) → y ≡ Pending sc st → sc ≡ read_flag (get_or w 18 0) → st ≡ read_flag (get_or w 19 0)
    → c ≡ read_flag (get_or w 16 0) → t ≡ read_flag (get_or w 17 0)
    → r ≡ record_of (restated (with_token (read_row (0 ∷ 1 ∷ w)) token) c t y) → r ≡ record_of (with_token (read_row (0 ∷ 1 ∷ w)) token)
unfolding read_row
accepted_is w r token sc st c t y ey es et ec eo e = rw (ey, es, et, ec, eo) at e

pub ended_is : (w r : List ℕ) (c t : Bool) (state : RequestState) → c ≡ read_flag (get_or w 16 0) → t ≡ read_flag (get_or w 17 0)
    → r ≡ record_of (restated (with_token (read_row (0 ∷ 1 ∷ w)) (get_or w 15 0)) c t state) → r ≡ record_of (with_state (read_row (0 ∷ 1 ∷ w)) state)
unfolding read_row
ended_is w r c t state ec et e = rw (ec, et) at e

pub values_at : (l r : List ℕ) (i s t at : ℕ) → i < length (read_rows l) → s ≡ word_at l i 0 → t ≡ word_at l i 1 → at ≡ record_at (row_count l) i
    → r ≡ report_values (report_of (read_row (s ∷ t ∷ take (at + record_words - at) (drop at l)))) → r ≡ report_values (report_of (row_at l i))
values_at l r i s t at h es et ea e = e ∙ ap (λ (y : Row). report_values (report_of y)) (row_at_lem l i s t at h es et ea)

-- row i is Pending, and the words of its record are those from `at` on
module _ (l : List ℕ) (i at : ℕ) (h : i < length (read_rows l)) (pending : is_pending_row (row_at l i) ≡ true) (ea : at ≡ record_at (row_count l) i) where
  abbrev recorded : List ℕ
  recorded = take (at + record_words - at) (drop at l)

  one : word_at l i 1 ≡ 1
  one = eqb-true (word_at l i 1) 1 (pending_is l i (word_at l i 1) h refl ∙ pending)

  same_row : read_row (word_at l i 0 ∷ 1 ∷ recorded) ≡ row_at l i
  same_row = row_at_lem l i (word_at l i 0) 1 at h refl (sym one) ea

  cancel_is : read_flag (word_at l i 20) ≡ cancel_in (row_at l i).state
  unfolding read_row
  cancel_is = rw (← row_is l i h, one)

  -- the columns and the record w are put
  put_anew : (m x w : List ℕ) (token : ℕ) (c t : Bool) (state : RequestState) (z : StatusWords) → Back state z
      → w ≡ record_of (restated (with_token (read_row (0 ∷ 1 ∷ recorded)) token) c t state)
      → m ≡ set (set l i (word_at l i 0)) (length l / row_words + i) z.status → x ≡ splice at (take record_words w) m
      → store_of x ≡ put_in (store_of l) i (restated (with_token (read_row (word_at l i 0 ∷ 1 ∷ recorded)) token) c t state)
  unfolding read_row record_of
  put_anew m x w token c t state z b hw em ex =
      let r = restated (with_token (read_row (word_at l i 0 ∷ 1 ∷ recorded)) token) c t state in
      let back : read_row (word_at l i 0 ∷ z.status ∷ w) ≡ r = rw hw (row_back (word_at l i 0) token recorded c t state z b) in
      put_row_lem l m x i at z w r h ea b.words back hw em ex

  pub end_put : (m x w : List ℕ) (state : RequestState) (s : ℕ) (z : StatusWords) → w ≡ record_of (with_state (read_row (0 ∷ 1 ∷ recorded)) state)
      → (read_flag z.status ≡ true) × (state_in z ≡ state) × (z ≡ status_words true state) → s ≡ word_at l i 0
      → m ≡ set (set l i s) (length l / row_words + i) z.status → x ≡ splice at (take record_words w) m
      → store_of x ≡ put_in (store_of l) i (with_state (row_at l i) state)
  unfolding read_row
  end_put m x w state s z hw hz es em ex =
      put_anew m x w (get_or recorded 15 0) (read_flag (get_or recorded 16 0)) (read_flag (get_or recorded 17 0)) state z
      (record { words = hz.2; used = hz.0; same = hz.1 }) hw (em ∙ rw es) ex
      ∙ ap (λ (y : Row). put_in (store_of l) i (with_state y state)) same_row

  pub complete_put : (x : List ℕ) (flag actual code : ℕ) (cancel : Bool) → flag ≡ word_at l i 20 → cancel ≡ read_flag flag
      → store_of x ≡ put_in (store_of l) i (with_state (row_at l i) (Completed actual code cancel)) → store_of x ≡ put_in (store_of l) i (completed_row (row_at l i) actual code)
  unfolding completed_row
  complete_put x flag actual code cancel ef ec e =
      e ∙ ap (λ (b : Bool). put_in (store_of l) i (with_state (row_at l i) (Completed actual code b))) (ec ∙ ap read_flag ef ∙ cancel_is)

  -- the record w is put, and the column words stay as they are
  module _ (x w : List ℕ) (ex : x ≡ splice at (take record_words w) l) where
    columns_same : l ≡ set (set l i (word_at l i 0)) (length l / row_words + i) 1
    unfolding row_count words_at
    columns_same = rw (set-get_or l i 0) (sym (rw one at (set-get_or l (length l / row_words + i) 0)))

    put_kept : (token : ℕ) (sc st c t : Bool) → w ≡ record_of (flagged (with_token (read_row (0 ∷ 1 ∷ recorded)) token) sc st c t)
        → store_of x ≡ put_in (store_of l) i (flagged (with_token (read_row (word_at l i 0 ∷ 1 ∷ recorded)) token) sc st c t)
    put_kept token sc st c t hw = put_anew l x w token c t (Pending sc st) (status_words true (Pending sc st)) (pending_back sc st) hw columns_same ex

    pub cancel_put : w ≡ record_of (cancelled (read_row (0 ∷ 1 ∷ recorded))) → store_of x ≡ put_in (store_of l) i (cancelled (row_at l i))
    unfolding read_row cancelled
    cancel_put hw =
        put_kept (get_or recorded 15 0) true (read_flag (get_or recorded 19 0)) true (read_flag (get_or recorded 17 0)) hw ∙ ap (λ (y : Row). put_in (store_of l) i (cancelled y)) same_row

    pub timed_out_put : w ≡ record_of (timed_out (read_row (0 ∷ 1 ∷ recorded))) → store_of x ≡ put_in (store_of l) i (timed_out (row_at l i))
    unfolding read_row timed_out
    timed_out_put hw =
        put_kept (get_or recorded 15 0) (read_flag (get_or recorded 18 0)) true (read_flag (get_or recorded 16 0)) true hw ∙ ap (λ (y : Row). put_in (store_of l) i (timed_out y)) same_row

    pub accept_put : (token : ℕ) → w ≡ record_of (with_token (read_row (0 ∷ 1 ∷ recorded)) token)
        → store_of x ≡ put_in (store_of l) i (with_token (row_at l i) token)
    unfolding read_row
    accept_put token hw =
        put_kept token (read_flag (get_or recorded 18 0)) (read_flag (get_or recorded 19 0)) (read_flag (get_or recorded 16 0)) (read_flag (get_or recorded 17 0)) hw
        ∙ ap (λ (y : Row). put_in (store_of l) i (with_token y token)) same_row

pub free_put : (l m x : List ℕ) (i at : ℕ) → i < length (read_rows l) → at ≡ record_at (row_count l) i
    → m ≡ set (set l i 0) (length l / row_words + i) 0 → x ≡ splice at (replicate record_words 0) m → store_of x ≡ put_in (store_of l) i empty_row
unfolding empty_row read_row read_metadata record_of
free_put l m x i at h ea em ex =
    put_row_lem l m x i at (status_words false (Pending false false)) (replicate record_words 0) empty_row h ea refl refl refl em ex
