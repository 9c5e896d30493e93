-- Laws of lists that are written beside an answer. Assumes nothing.
use Rattle.std.specs.Prelude.{Result, Ok, Err}
use Rattle.std.specs.Result.{is_ok}
use Prim.Native.Nat.{ℕ, ◌+◌, ◌-◌, ◌*◌, ◌<◌, ◌≤◌, min}
use mathlib.Core.Bool.{true, false, false≢true}
use mathlib.Core.List.{List, [], ◌∷◌, ◌++◌, append_assoc}
use mathlib.Core.Path.{◌≡◌, refl, sym, ap, ◌∙◌}
use native.Mathlib.Omega.{arith}
use native.Mathlib.Numerals.{add-one}
use lib.ListN.{length, get_or, take, drop, length-append, length-take, length-drop, length-map, take-append-drop, get_or-map}
use lib.Seq.{take-suc, take_all, take_at, drop-drop, drop-append-add, length-take-le}
use borrow.Author.Tests.{lt-ltb, le-ltb}
use Rattle.chain.proofs.Chain.{takes, passes}
use Rattle.words.proofs.Parts.{take_cut}
use Rattle.words.specs.Records.{splice}
use Rattle.models.specs.Values.{request_id_words}
use Rattle.models.specs.declared.{Refusal.Refusal, RequestId.RequestId}
use Rattle.session.specs.declared.{Recovery.Recovery}
use Rattle.recovery.specs.declared.{AbortReport.AbortReport, Begun.Begun, Replied.Replied}
use Rattle.recovery.specs.Reports.{ids_of}
use Rattle.rows.specs.Table.{id_in}
use Rattle.rows.specs.declared.{Row.Row}
use Rattle.answer_words.specs.Lists.{token_list, id_words, id_list, begun_list, begun_lists, part_lists, recovered_lists, put_lists}

-- a, and then b behind it
splice_join : (at from : ℕ) (a b l : List ℕ) → from ≡ at + length a → from ≤ length l → splice from b (splice at a l) ≡ splice at (a ++ b) l
unfolding splice
splice_join at from a b l e h =
    let xs = take at l ++ a in
    let ys = drop (at + length a) l in
    let n : length xs ≡ at + length a = length-append (take at l) a ∙ rw (length-take-le at l (omega arith)) in
    let d : drop (at + length a + length b) (xs ++ ys) ≡ drop (at + length a + length b) l =
    ap (λ (k : ℕ). drop (k + length b) (xs ++ ys)) (sym n) ∙ drop-append-add xs ys (length b) ∙ drop-drop (length b) (at + length a) l in
    let z : at + length (a ++ b) ≡ at + length a + length b = omega (arith, length-append a b) in
    rw (e, ← append_assoc (take at l) a ys, take_at xs ys (at + length a) n, d, z) (simp append_assoc)

-- a list of 128, cut
cut : {A : Type 0} (l : List A) (count n : ℕ) → length l ≡ 128 → n ≡ min count 128 → take n l ≡ take count l
cut l count n h e = rw (e, ← h) (take_cut count l)

-- ---- the words of ids
id_words_append : (a b : List RequestId) → id_words (a ++ b) ≡ id_words a ++ id_words b
id_words_append [] b = refl
id_words_append (x ∷ a) b = rw (id_words_append a b)

pub id_words_length : (l : List RequestId) → length (id_words l) ≡ length l * 3
id_words_length [] = refl
id_words_length (x ∷ l) = omega (arith, id_words_length l)

module _ (ids : List RequestId) (at : ℕ) (l : List ℕ) where
  pub ids_start : l ≡ splice (at + 1) (id_words (take 0 ids)) l
  unfolding splice
  ids_start = let z : at + 1 + 0 ≡ at + 1 = omega arith in rw z (sym (take-append-drop (at + 1) l))

  module _ (n k : ℕ) (m : List ℕ) (e : m ≡ splice (at + 1) (id_words (take k ids)) l) where
    -- one id more
    pub ids_on : (d : RequestId) (after : List ℕ) → at + 1 + n * 3 ≤ length l → k < n → n ≤ length ids
        → after ≡ splice (at + 1 + k * 3) (request_id_words (get_or ids k d)) m → after ≡ splice (at + 1) (id_words (take (k + 1) ids)) l
    ids_on d after h lt le q =
        let z : at + 1 + k * 3 ≡ at + 1 + length (id_words (take k ids)) = omega (arith, id_words_length (take k ids), length-take-le k ids (omega arith)) in
        let j = splice_join (at + 1) (at + 1 + k * 3) (id_words (take k ids)) (request_id_words (get_or ids k d)) l z (omega arith) in
        q ∙ rw (e, j, add-one k, take-suc ids k d (omega arith), id_words_append (take k ids) (get_or ids k d ∷ []))

    pub ids_end : (l₀ : List ℕ) → at + 1 + n * 3 ≤ length l₀ → n ≡ length ids → k ≤ n → n ≤ k → l ≡ splice at (n ∷ []) l₀
        → m ≡ splice at (id_list ids) l₀
    ids_end l₀ h i g o el =
        let z : k ≡ n = omega arith in
        let j = splice_join at (at + 1) (n ∷ []) (id_words ids) l₀ refl (omega arith) in
        e ∙ rw (z, take_all n ids (omega arith), el, j, i)

-- of the rows at places
module _ (rows : List Row) (places : List ℕ) (at : ℕ) (l : List ℕ) (n k : ℕ) (m : List ℕ) (en : n ≡ length places)
    (e : m ≡ splice (at + 1) (id_words (take k (ids_of rows places))) l) where
  pub place_on : (id : RequestId) (after : List ℕ) → k < n → id ≡ id_in rows (get_or places k 0) → after ≡ splice (at + 1 + k * 3) (request_id_words id) m
      → at + 1 + n * 3 ≤ length l → after ≡ splice (at + 1) (id_words (take (k + 1) (ids_of rows places))) l
  place_on id after lt ei q h =
      ids_on (ids_of rows places) at l n k m e (id_in rows 0) after h lt (omega (arith, length-map places (id_in rows)))
      (q ∙ ap (λ (x : RequestId). splice (at + 1 + k * 3) (request_id_words x) m) (ei ∙ sym (get_or-map (id_in rows) places k 0)))

  pub place_end : (l₀ : List ℕ) → at + 1 + n * 3 ≤ length l₀ → k ≤ n → n ≤ k → l ≡ splice at (n ∷ []) l₀ → m ≡ splice at (id_list (ids_of rows places)) l₀
  place_end l₀ h g o el = ids_end (ids_of rows places) at l n k m e l₀ h (en ∙ sym (length-map places (id_in rows))) g o el

-- ---- room
pub put_all : (lists l after : List ℕ) → length lists ≤ length l → after ≡ splice 0 lists l → after ≡ put_lists lists l
unfolding put_lists
put_all lists l after h e = passes (List ℕ) _ _ _ _ (le-ltb (length l) (length lists) h) e

put_not : (lists l : List ℕ) → length l < length lists → l ≡ put_lists lists l
unfolding put_lists
put_not lists l h = takes (List ℕ) _ _ _ _ (lt-ltb (length l) (length lists) h) refl

pub put_none : (l : List ℕ) → l ≡ put_lists [] l
unfolding splice
put_none l = put_all [] l l (omega arith) refl

-- ---- tokens
module _ (tokens l : List ℕ) (count n : ℕ) (et : length tokens ≡ 128) (en : n ≡ min count 128) where
  tokens-length : length (take count tokens) ≡ n
  tokens-length = length-take count tokens ∙ rw (et, en)

  pub tokens_short : length l ≤ n → l ≡ put_lists (token_list (take count tokens)) l
  tokens_short h = put_not (token_list (take count tokens)) l (omega (arith, tokens-length))

  pub tokens_put : (m after : List ℕ) → n < length l → m ≡ splice 0 (n ∷ []) l → after ≡ splice 1 (take n tokens) m
      → after ≡ put_lists (token_list (take count tokens)) l
  tokens_put m after h em ea =
      let j = splice_join 0 1 (n ∷ []) (take n tokens) l refl (omega arith) in
      put_all (token_list (take count tokens)) l after (omega (arith, tokens-length)) (ea ∙ rw (em, j, tokens-length, cut tokens count n et en))

-- ---- two lists of ids, at the first n places and at the next m
module _ (rows : List Row) (places l : List ℕ) (n m : ℕ) (few : n + m ≤ 128) (el : length places ≡ 128) where
  abbrev first : List RequestId
  first = ids_of rows (take n places)

  abbrev others : List RequestId
  others = ids_of rows (take m (drop n places))

  first-length : length first ≡ n
  first-length = length-map (take n places) (id_in rows) ∙ length-take-le n places (omega arith)

  others-length : length others ≡ m
  others-length = length-map (take m (drop n places)) (id_in rows) ∙ length-take-le m (drop n places) (omega (arith, length-drop n places))

  two_length : length (id_list first ++ id_list others) ≡ 2 + n * 3 + m * 3
  two_length = omega (arith, length-append (id_list first) (id_list others), id_words_length first, id_words_length others, first-length, others-length)

  pub two_short : length l < 1 + n * 3 + 1 + m * 3 → l ≡ put_lists (part_lists rows places n m) l
  two_short g = put_not (part_lists rows places n m) l (omega (arith, two_length))

  pub two_put : (k after : List ℕ) → 1 + n * 3 + 1 + m * 3 ≤ length l → k ≡ splice 0 (id_list first) l
      → after ≡ splice (1 + n * 3) (id_list (ids_of rows (take (n + m - n) (drop n places)))) k → after ≡ put_lists (part_lists rows places n m) l
  two_put k after g ek ea =
      let z : n + m - n ≡ m = omega arith in
      let j = splice_join 0 (1 + n * 3) (id_list first) (id_list others) l (omega (arith, id_words_length first, first-length)) (omega arith) in
      put_all (part_lists rows places n m) l after (omega (arith, two_length)) (ea ∙ rw (z, ek, j))

-- ---- by the answer
refused_list : (a : Result Recovery Refusal) (n : ℕ) (tokens : List ℕ) → is_ok a ≡ false → begun_list a n tokens ≡ []
refused_list (Err r) n tokens h = refl
refused_list (Ok x) n tokens h = absurd (false≢true (sym h))

begun_tokens : (a : Result Recovery Refusal) (n : ℕ) (tokens : List ℕ) → is_ok a ≡ true → begun_list a n tokens ≡ token_list (take n tokens)
begun_tokens (Err r) n tokens h = absurd (false≢true h)
begun_tokens (Ok x) n tokens h = refl

pub begun_refused : (o : Begun) (l : List ℕ) → is_ok o.answer ≡ false → l ≡ put_lists (begun_lists o) l
unfolding begun_lists
begun_refused o l e = rw (refused_list o.answer o.count o.tokens e) (put_none l)

pub begun_put : (o : Begun) (l after : List ℕ) → is_ok o.answer ≡ true
    → after ≡ put_lists (token_list (take o.count o.tokens)) l → after ≡ put_lists (begun_lists o) l
unfolding begun_lists
begun_put o l after e h = rw (begun_tokens o.answer o.count o.tokens e) h

module _ (p : Replied) (rows : List Row) (l : List ℕ) where
  pub replied_refused : (r : Refusal) → p.answer ≡ Err r → l ≡ put_lists (recovered_lists p rows) l
  unfolding recovered_lists
  replied_refused r e = rw e (put_none l)

  pub replied_put : (x : AbortReport) (after : List ℕ) → p.answer ≡ Ok x
      → after ≡ put_lists (part_lists rows p.places x.completed x.aborted) l → after ≡ put_lists (recovered_lists p rows) l
  unfolding recovered_lists
  replied_put x after e h = rw e h
