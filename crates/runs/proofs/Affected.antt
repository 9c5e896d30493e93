-- The rows that a recovery affects, and those that a reply's tokens mean. Assumes nothing.
use Prim.Native.Nat.{ℕ, zero, suc, ◌+◌, ◌≤◌, ◌<◌}
use mathlib.Core.Path.{◌≡◌, refl, sym, ap, ◌∙◌}
use mathlib.Core.Bool.{true, cond, ◌&&◌}
use mathlib.Core.List.{List, [], ◌∷◌}
use native.Mathlib.Omega.{arith}
use native.Mathlib.Nat.{le_of_suc-le-suc}
use borrow.Author.Tests.{eq-eqb, eqb-true, lt-ltb, ltb-true}
use lib.Dec.{eqb, ltb}
use lib.ListN.{length, get_or, take, length-map, get_or-map}
use lib.Seq.{take_all}
use Rattle.chain.specs.Lists.{sum_by, only, count, is_among}
use Rattle.chain.proofs.Chain.{caseB, both}
use Rattle.chain.proofs.Lists.{sum_suc, sum_le, sum_part, find_hit, get_or-any, in_cons}
use Rattle.models.specs.declared.{DeviceId.DeviceId}
use Rattle.rows.specs.Table.{empty_row, is_held, row_in, id_in, token_in}
use Rattle.rows.specs.declared.{Row.Row}
use Rattle.scope.specs.Affected.{is_affected, comes_before, insert_row, joined, affected_up_to, affected_of, tokens_of}
use Rattle.scope.specs.Scope.{slot_of, meant}
use Rattle.scope.proofs.affected.Laws.{affected_bounded}

module _ (d : DeviceId) (endpoint : ℕ) (rows : List Row) where
  -- the tokens of the affected rows, and the place of the row that a token means
  abbrev pub own_tokens : List ℕ
  own_tokens = tokens_of rows (affected_of d endpoint rows)

  abbrev pub place_meant : ℕ → ℕ
  place_meant t = meant (affected_of d endpoint rows) own_tokens t

  -- ---- an affected row is held
  abbrev AllHeld : List ℕ → Type 0
  AllHeld l = (k : ℕ) → k < length l → is_affected d endpoint (row_in rows (get_or l k 0)) ≡ true

  cons_held : (i : ℕ) (l : List ℕ) → is_affected d endpoint (row_in rows i) ≡ true → AllHeld l → AllHeld (i ∷ l)
  cons_held i l h a zero lt = h
  cons_held i l h a (suc k) lt = a k (le_of_suc-le-suc lt)

  insert_held : (i : ℕ) (l : List ℕ) → is_affected d endpoint (row_in rows i) ≡ true → AllHeld l → AllHeld (insert_row rows i l)
  insert_held i [] h a = cons_held i [] h a
  insert_held i (j ∷ js) h a = caseB (comes_before rows (id_in rows i) j)
      (λ e. rw e (cons_held i (j ∷ js) h a))
      (λ e. rw e (cons_held j (insert_row rows i js) (a 0 (omega arith)) (insert_held i js h (λ k lt. a (suc k) (omega arith)))))

  pub affected_is_held : (r : Row) → is_affected d endpoint r ≡ true → is_held r ≡ true
  unfolding is_affected
  affected_is_held r e = (both _ _ (both _ _ e).0).0

  up_to_held : (n : ℕ) → AllHeld (affected_up_to d endpoint rows n)
  unfolding joined
  up_to_held zero = λ k lt. absurd (omega arith)
  up_to_held (suc n) = caseB (is_affected d endpoint (row_in rows n) && ltb (length (affected_up_to d endpoint rows n)) 128)
      (λ e. rw e (insert_held n (affected_up_to d endpoint rows n) (both _ _ e).0 (up_to_held n)))
      (λ e. rw e (up_to_held n))

  affected_held : AllHeld (affected_of d endpoint rows)
  unfolding affected_of
  affected_held = up_to_held (length rows)

  -- the row that an expected token means is affected
  module _ (t : ℕ) (e : is_among t own_tokens ≡ true) where
    pub slot_in : slot_of own_tokens t < length (affected_of d endpoint rows)
    slot_in = omega (arith, ltb-true (slot_of own_tokens t) (length own_tokens) e, length-map (affected_of d endpoint rows) (token_in rows))

    pub meant_below : place_meant t < length rows
    meant_below = affected_bounded d endpoint rows (slot_of own_tokens t) slot_in

    pub meant_affected : is_affected d endpoint (row_in rows (place_meant t)) ≡ true
    meant_affected = affected_held (slot_of own_tokens t) slot_in

    -- and has it
    pub own_token : token_in rows (place_meant t) ≡ t
    own_token =
        let h = ltb-true (slot_of own_tokens t) (length own_tokens) e in
        sym (get_or-map (token_in rows) (affected_of d endpoint rows) (slot_of own_tokens t) 0)
        ∙ get_or-any own_tokens (slot_of own_tokens t) (token_in rows 0) 0 h ∙ sym (eqb-true t (get_or own_tokens (slot_of own_tokens t) 0) (find_hit (eqb t) own_tokens 0 h))

  -- ---- with 128 held rows or fewer none is left out

  -- as affected_up_to, without a bound on their number
  abbrev pub all_up_to : ℕ → List ℕ
  all_up_to zero = []
  all_up_to (suc n) = cond (is_affected d endpoint (row_in rows n)) (insert_row rows n (all_up_to n)) (all_up_to n)

  sum_insert : (w : ℕ → ℕ) (i : ℕ) (l : List ℕ) → sum_by w (insert_row rows i l) ≡ w i + sum_by w l
  sum_insert w i [] = refl
  sum_insert w i (j ∷ js) = caseB (comes_before rows (id_in rows i) j) (λ e. rw e) (λ e. rw e (omega (arith, sum_insert w i js)))

  up_to_weighs : (w : Row → ℕ) (n : ℕ) → n ≤ length rows → sum_by (λ i. w (row_in rows i)) (all_up_to n) ≡ sum_by (only (is_affected d endpoint) w) (take n rows)
  up_to_weighs w zero h = refl
  up_to_weighs w (suc n) h =
      let ih = up_to_weighs w n (omega arith) in
      let one = sum_suc (only (is_affected d endpoint) w) rows n empty_row h in
      caseB (is_affected d endpoint (row_in rows n))
      (λ y.
      let v : only (is_affected d endpoint) w (row_in rows n) ≡ w (row_in rows n) = rw y in
      rw y (omega (arith, sum_insert (λ i. w (row_in rows i)) n (all_up_to n), ih, one, v)))
      (λ y. let v : only (is_affected d endpoint) w (row_in rows n) ≡ 0 = rw y in rw y (omega (arith, ih, one, v)))

  length_sum : (l : List ℕ) → sum_by (λ i. 1) l ≡ length l
  length_sum [] = refl
  length_sum (i ∷ l) = omega (arith, length_sum l)

  held_less : (r : Row) → only (is_affected d endpoint) (λ x. 1) r ≤ only is_held (λ x. 1) r
  held_less r = caseB (is_affected d endpoint r) (λ y. let h = affected_is_held r y in rw (y, h) (omega arith)) (λ y. rw y (omega arith))

  short : (n : ℕ) → n ≤ length rows → length (all_up_to n) ≤ count is_held (take n rows)
  short n h =
      omega (
        arith,
        length_sum (all_up_to n),
        up_to_weighs (λ r. 1) n h,
        sum_le (only (is_affected d endpoint) (λ x. 1)) (only is_held (λ x. 1)) (take n rows) held_less,
      )

  none_cut : (n : ℕ) → n ≤ length rows → count is_held (take n rows) ≤ 128 → affected_up_to d endpoint rows n ≡ all_up_to n
  unfolding joined
  none_cut zero h few = refl
  none_cut (suc n) h few =
      let held = sum_suc (only is_held (λ x. 1)) rows n empty_row h in
      let ih = none_cut n (omega arith) (omega (arith, held)) in
      rw ih (caseB (is_affected d endpoint (row_in rows n))
      (λ y.
      let a : only is_held (λ x. 1) (row_in rows n) ≡ 1 = let z = affected_is_held (row_in rows n) y in rw z in
      let room = lt-ltb (length (all_up_to n)) 128 (omega (arith, held, short n (omega arith), a)) in
      rw (y, room))
      (λ y. rw y))

  -- every affected row, by ascending id
  abbrev pub all_of : List ℕ
  all_of = all_up_to (length rows)

  module _ (few : count is_held rows ≤ 128) where
    whole : take (length rows) rows ≡ rows
    whole = take_all (length rows) rows (omega arith)

    pub affected_all : affected_of d endpoint rows ≡ all_of
    unfolding affected_of
    affected_all = let all = whole in none_cut (length rows) (omega arith) (rw all few)

    -- whatever is weighed
    pub affected_weigh : (w : Row → ℕ) → sum_by (λ i. w (row_in rows i)) (affected_of d endpoint rows) ≡ sum_by (only (is_affected d endpoint) w) rows
    affected_weigh w = let all = affected_all in rw all (up_to_weighs w (length rows) (omega arith)) ∙ ap (sum_by (only (is_affected d endpoint) w)) whole

    -- so an affected row's token is expected
    abbrev has_token : ℕ → Row → ℕ
    has_token t r = cond (eqb t r.token) 1 0

    weighed_in : (t : ℕ) (l : List ℕ) → 1 ≤ sum_by (λ i. has_token t (row_in rows i)) l → is_among t (tokens_of rows l) ≡ true
    weighed_in t [] h = absurd (omega arith)
    weighed_in t (j ∷ js) h =
        in_cons t (token_in rows j) (tokens_of rows js)
        ∙ caseB (eqb t (token_in rows j)) (λ y. rw y) (λ y. let z : has_token t (row_in rows j) ≡ 0 = rw y in rw y (weighed_in t js (omega arith)))

    pub expected : (i : ℕ) → i < length rows → is_affected d endpoint (row_in rows i) ≡ true → is_among (token_in rows i) own_tokens ≡ true
    expected i h e =
        let t : ℕ = token_in rows i in
        let same = eq-eqb t t refl in
        let w : only (is_affected d endpoint) (has_token t) (row_in rows i) ≡ 1 = rw (e, same) in
        weighed_in t (affected_of d endpoint rows) (omega (arith, affected_weigh (has_token t), sum_part (only (is_affected d endpoint) (has_token t)) rows i empty_row h, w))
