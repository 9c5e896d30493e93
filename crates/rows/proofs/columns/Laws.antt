-- What a few words of a row say of it: the laws of the column readers. Assumes nothing.
use Prim.Native.Nat.{ℕ, zero, suc, ◌+◌, ◌%◌, ◌<◌, ◌≤◌}
use mathlib.Core.Path.{◌≡◌, refl, sym, ap, ◌∙◌}
use mathlib.Core.Bool.{Bool, cond, not, ◌&&◌}
use mathlib.Core.List.{List}
use native.Mathlib.Omega.{arith}
use lib.ListN.{length, get_or, take, drop, get_or-eq_default}
use lib.Seq.{get_or-take, get_or-drop}
use lib.Dec.{eqb}
use borrow.Author.Tests.{ne_eqb, le-ltb, eqb-true, eqb-false}
use Rattle.chain.proofs.Chain.{caseB}
use Rattle.words.specs.Words.{read_flag}
use Rattle.models.specs.Requests.{device_may_access, is_pending, is_uncertain_failure, no_id}
use Rattle.models.specs.declared.{DeviceId.DeviceId, RequestId.RequestId}
use Rattle.rows.specs.Codec.{read_row, read_metadata, state_by_kind, kind_by}
use Rattle.rows.specs.Table.{words_at, word_at, read_rows, row_count, empty_row, row_at, id_in, token_in, is_held, is_uncertain, is_pending_row}
use Rattle.rows.specs.declared.{Row.Row}
use Rattle.rows.proofs.Rows.{row_is}

-- one field is one word
pub sequence_is : (l : List ℕ) (i w : ℕ) → i < length (read_rows l) → w ≡ word_at l i 0 → w ≡ (row_at l i).id.sequence
unfolding read_row
sequence_is l i w h e = e ∙ ap (λ (r : Row). r.id.sequence) (row_is l i h)

pub used_is : (l : List ℕ) (i w : ℕ) (b : Bool) → i < length (read_rows l) → w ≡ word_at l i 1 → b ≡ read_flag w → b ≡ (row_at l i).used
unfolding read_row
used_is l i w b h e f = f ∙ ap read_flag e ∙ ap (λ (r : Row). r.used) (row_is l i h)

-- word k of the metadata
meta_word : (w : List ℕ) (k : ℕ) → k < 13 → get_or (take 13 (drop 4 w)) k 0 ≡ get_or w (4 + k) 0
meta_word w k h = get_or-take 13 (drop 4 w) k 0 h ∙ get_or-drop 4 w k 0

pub length_is : (l : List ℕ) (i w : ℕ) → i < length (read_rows l) → w ≡ word_at l i 10 → w ≡ (row_at l i).metadata.requested_length
unfolding read_row read_metadata
length_is l i w h e = e ∙ sym (meta_word (words_at (row_count l) l i) 6 (omega arith)) ∙ ap (λ (r : Row). r.metadata.requested_length) (row_is l i h)

pub endpoint_is : (l : List ℕ) (i w : ℕ) → i < length (read_rows l) → w ≡ word_at l i 7 → w % 256 ≡ (row_at l i).metadata.endpoint
unfolding read_row read_metadata
endpoint_is l i w h e =
    ap (λ (n : ℕ). n % 256) (e ∙ sym (meta_word (words_at (row_count l) l i) 3 (omega arith))) ∙ ap (λ (r : Row). r.metadata.endpoint) (row_is l i h)

pub device_is : (l : List ℕ) (i s g p : ℕ) → i < length (read_rows l) → s ≡ word_at l i 4 → g ≡ word_at l i 5 → p ≡ word_at l i 6
    → ◌≡◌ {A = DeviceId} (record { session = s; generation = g; slot = p % 256 }) (row_at l i).metadata.device
unfolding read_row read_metadata
device_is l i s g p h es eg ep =
    let m = meta_word (words_at (row_count l) l i) in
    rw (es, eg, ep, ← m 0 (omega arith), ← m 1 (omega arith), ← m 2 (omega arith)) (ap (λ (r : Row). r.metadata.device) (row_is l i h))

pub id_is : (l : List ℕ) (i s g q : ℕ) → i < length (read_rows l) → s ≡ word_at l i 2 → g ≡ word_at l i 3 → q ≡ (row_at l i).id.sequence
    → ◌≡◌ {A = RequestId} (record { session = s; generation = g; sequence = q }) (row_at l i).id
unfolding read_row
id_is l i s g q h es eg eq =
    let a : s ≡ (row_at l i).id.session = es ∙ ap (λ (r : Row). r.id.session) (row_is l i h) in
    let b : g ≡ (row_at l i).id.generation = eg ∙ ap (λ (r : Row). r.id.generation) (row_is l i h) in
    λ k. record { session = a k; generation = b k; sequence = eq k }

pub token_is : (l : List ℕ) (i w : ℕ) → i < length (read_rows l) → w ≡ word_at l i 17 → w ≡ (row_at l i).token
unfolding read_row
token_is l i w h e = e ∙ ap (λ (r : Row). r.token) (row_is l i h)

-- where there is no row i
module _ (l : List ℕ) (i n : ℕ) (en : n ≡ length (read_rows l)) (h : n ≤ i) where
  outside : row_at l i ≡ empty_row
  outside = let q : length (read_rows l) ≤ i = omega arith in get_or-eq_default (read_rows l) empty_row q

  pub id_out : (x : RequestId) → x ≡ no_id → x ≡ id_in (read_rows l) i
  unfolding empty_row read_row
  id_out x e = e ∙ sym (ap (λ (r : Row). r.id) outside)

  pub token_out : 0 ≡ token_in (read_rows l) i
  unfolding empty_row read_row
  token_out = sym (ap (λ (r : Row). r.token) outside)

-- a status is a kind where it is not 0, and odd where the row is held
held_kind : (t r a b d e f : ℕ) → (not (eqb t 0) && device_may_access (state_by_kind (kind_by t r) a b d e f)) ≡ eqb (t % 2) 1
held_kind zero r a b d e f = refl
held_kind (suc zero) r a b d e f = refl
held_kind (suc (suc zero)) r a b d e f = refl
held_kind (suc (suc (suc t))) r a b d e f =
    let k = suc (suc (suc t)) in
    rw (ne_eqb k 0 (λ z. omega arith), le-ltb k 2 (omega arith), ne_eqb k 2 (λ z. omega arith))
    (caseB (eqb (k % 2) 1) (λ y. rw y) (λ y. rw y (caseB (eqb k 4) (λ z. rw z) (λ z. rw z))))

uncertain_kind : (t r a b d e f : ℕ) → (not (eqb t 0) && is_uncertain_failure (state_by_kind (kind_by t r) a b d e f)) ≡ (eqb (t % 2) 1 && not (eqb t 1))
uncertain_kind zero r a b d e f = refl
uncertain_kind (suc zero) r a b d e f = refl
uncertain_kind (suc (suc zero)) r a b d e f = refl
uncertain_kind (suc (suc (suc t))) r a b d e f =
    let k = suc (suc (suc t)) in
    rw (ne_eqb k 0 (λ z. omega arith), ne_eqb k 1 (λ z. omega arith), le-ltb k 2 (omega arith), ne_eqb k 2 (λ z. omega arith))
    (caseB (eqb (k % 2) 1) (λ y. rw y) (λ y. rw y (caseB (eqb k 4) (λ z. rw z) (λ z. rw z))))

pending_kind : (t r a b d e f : ℕ) → (not (eqb t 0) && is_pending (state_by_kind (kind_by t r) a b d e f)) ≡ eqb t 1
pending_kind zero r a b d e f = refl
pending_kind (suc zero) r a b d e f = refl
pending_kind (suc (suc zero)) r a b d e f = refl
pending_kind (suc (suc (suc t))) r a b d e f =
    let k = suc (suc (suc t)) in
    rw (ne_eqb k 0 (λ z. omega arith), ne_eqb k 1 (λ z. omega arith), le-ltb k 2 (omega arith), ne_eqb k 2 (λ z. omega arith))
    (caseB (eqb (k % 2) 1) (λ y. rw y) (λ y. rw y (caseB (eqb k 4) (λ z. rw z) (λ z. rw z))))

odd_word : (t : ℕ) → cond (eqb (t % 2) 1) 1 0 ≡ t % 2
odd_word t = caseB (eqb (t % 2) 1) (λ y. rw y (sym (eqb-true (t % 2) 1 y))) (λ y. rw y (let n = eqb-false (t % 2) 1 y in omega arith))

module _ (l : List ℕ) (i t : ℕ) (h : i < length (read_rows l)) (et : t ≡ word_at l i 1) where
  held_by : is_held (row_at l i) ≡ eqb (t % 2) 1
  unfolding is_held read_row
  held_by = rw (← row_is l i h, ← et) (held_kind t (word_at l i 22) (word_at l i 20) (word_at l i 21) (word_at l i 23) (word_at l i 24) (word_at l i 25))

  pub held_is : eqb (t % 2) 1 ≡ is_held (row_at l i)
  held_is = sym held_by

  pub uncertain_is : (eqb (t % 2) 1 && not (eqb t 1)) ≡ is_uncertain (row_at l i)
  unfolding is_uncertain read_row
  uncertain_is = rw (← row_is l i h, ← et) (sym (uncertain_kind t (word_at l i 22) (word_at l i 20) (word_at l i 21) (word_at l i 23) (word_at l i 24) (word_at l i 25)))

  pub pending_is : eqb t 1 ≡ is_pending_row (row_at l i)
  unfolding is_pending_row read_row
  pending_is = rw (← row_is l i h, ← et) (sym (pending_kind t (word_at l i 22) (word_at l i 20) (word_at l i 21) (word_at l i 23) (word_at l i 24) (word_at l i 25)))

  pub held_word : t % 2 ≡ cond (is_held (row_at l i)) 1 0
  held_word = rw held_by (sym (odd_word t))
