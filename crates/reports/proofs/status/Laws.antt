-- One law for each way out of reports, completed bytes and tallies: its premises are the facts in hand there. Assumes nothing.
use Rattle.std.specs.Prelude.{Option, Some, None, IfSome, Result, Ok, Err, ⊤, ok_or}
use Rattle.std.specs.List.{fold, filter, range_with_len}
use Rattle.std.specs.Result.{result_ok}
use Prim.Native.Nat.{ℕ, suc, zero, ◌+◌, ◌-◌, ◌*◌, ◌^◌, ◌<◌, ◌≤◌, min}
use mathlib.Core.Bool.{Bool, true, false, cond, not, ◌&&◌}
use mathlib.Core.List.{List, [], ◌∷◌}
use mathlib.Core.Path.{◌≡◌, refl, sym, ap, ◌∙◌}
use native.Mathlib.Nat.{le_of_suc-le-suc, min-le_right}
use native.Mathlib.Numerals.{add-one}
use native.Mathlib.Omega.{arith}
use lib.ListN.{length, get_or, take, drop}
use lib.Seq.{take_all}
use borrow.Author.Tests.{not-true, not-false}
use mir.Syntax.{w64}
use mir.Val.{Fits, bool_byte}
use Rattle.chain.specs.Chain.{◌if◌else◌}
use Rattle.chain.specs.Lists.{count, found_in}
use Rattle.chain.proofs.Chain.{caseB, takes, passes, through}
use Rattle.models.specs.Refusals.{refusal_of}
use Rattle.models.specs.Requests.{same_request, request_before}
use Rattle.models.specs.declared.{Refusal.Refusal, RequestId.RequestId, RequestReport.RequestReport}
use Rattle.rows.specs.Table.{empty_row, read_rows, row_in, id_in}
use Rattle.rows.specs.Store.{Store, store_of}
use Rattle.rows.specs.declared.{Row.Row}
use Rattle.rules.specs.Rules.{report_of}
use Rattle.ledger.specs.Search.{is_at}
use Rattle.ledger.specs.Tally.{held_count, held_bytes}
use Rattle.ledger.proofs.tally.Laws.{count_on}
use Rattle.ledger.proofs.Found.{found_in_lem}
use Rattle.session.specs.Lent.{store_fits}
use Rattle.session.specs.Sizes.{place_of, memory_sizes}
use Rattle.session.specs.declared.{InFlight.InFlight, Session.Session, Size.Size, sizes.Place.Place}
use Rattle.session.specs.Start.{sized_of}
use Rattle.session.proofs.sizes.Laws.{place_in_lem, place_small}
use Rattle.session.proofs.start.Laws.{sized_stop, sized_on, sized_fits}
use Rattle.reports.specs.Status.{is_submitting, shown_at, status_by, status_of, is_shown, comes_after, beats, is_better, better, best_from, report_at, better_at, next_of, shown_count, completed_length, bytes_part, part_by, completed_part, part_of, bytes_of, held_count_of, held_bytes_of}
use Rattle.reports.specs.declared.{Part.Part}

-- a submission in flight
pub submitting_own : (f : InFlight) (id own : RequestId) (b : Bool) → f ≡ InFlight.Submission own → b ≡ same_request own id → b ≡ is_submitting f id
submitting_own f id own b e eb = eb ∙ rw e

-- the row of an id that has a report
module _ (f : InFlight) (id : RequestId) (rows : List Row) where
  module _ (b : Bool) (eb : b ≡ is_submitting f id) where
    pub shown_none : b ≡ true → None ≡ shown_at f id rows
    unfolding shown_at
    shown_none t = takes (Option ℕ) _ _ _ _ (through b _ true eb t) refl

    pub shown_find : (g : Option ℕ) → b ≡ false → g ≡ found_in (is_at id) rows → g ≡ shown_at f id rows
    unfolding shown_at
    shown_find g t eg = passes (Option ℕ) _ _ _ _ (through b _ false eb t) eg

  shown_by : (b : Bool) (i : ℕ) → (None if b else found_in (is_at id) rows) ≡ Some i → i < length rows
  unfolding ◌if◌else◌
  shown_by true i e = let z : ◌≡◌ {A = ℕ} 0 1 = cc in absurd (omega arith)
  shown_by false i e = found_in_lem (is_at id) rows _ i refl e

  pub shown_in : (g : Option ℕ) (i : ℕ) → g ≡ shown_at f id rows → g ≡ Some i → i < length rows
  unfolding shown_at
  shown_in g i eg e = shown_by (is_submitting f id) i (sym eg ∙ e)

-- a search's answer, or a refusal by 40
module _ (o : Result ℕ Refusal) (g : Option ℕ) where
  pub told : (i : ℕ) → g ≡ result_ok o → o ≡ Ok i → g ≡ Some i
  told i e t = e ∙ ap result_ok t

  pub untold : (r : Refusal) → g ≡ result_ok o → o ≡ Err r → g ≡ None
  untold r e t = e ∙ ap result_ok t

  pub untold_by : (x r : Refusal) → o ≡ ok_or g x → o ≡ Err r → x ≡ refusal_of 40 → r ≡ refusal_of 40
  untold_by x r e t ex = by g (sym e ∙ t) ∙ ex
    where
      by : (f : Option ℕ) → ok_or f x ≡ Err r → r ≡ x
      by None z = cc
      by (Some k) z = cc

-- a request's status
module _ (id : RequestId) (s : Session) (store : Store) (v : Result ⊤ Refusal) (ev : v ≡ sized_of (store_fits s.size store)) where
  pub status_unfit : (r : Refusal) → v ≡ Err r → Err r ≡ status_of id s store
  unfolding status_of
  status_unfit r e = sized_stop (Result RequestReport Refusal) Err _ _ _ v ev r e refl

  module _ (t : v ≡ Ok tt) (g : Option ℕ) (eg : g ≡ shown_at s.in_flight id store.rows) where
    pub status_none : (r : Refusal) → g ≡ None → r ≡ refusal_of 40 → Err r ≡ status_of id s store
    unfolding status_of status_by
    status_none r e er = sized_on (Result RequestReport Refusal) Err _ _ _ v ev t (rw (sym eg ∙ e, er))

    pub status_at : (i : ℕ) (row : Row) (x : RequestReport) → g ≡ Some i → row ≡ get_or store.rows i empty_row → x ≡ report_of row
        → Ok x ≡ status_of id s store
    unfolding status_of status_by
    status_at i row x e er ex = sized_on (Result RequestReport Refusal) Err _ _ _ v ev t (rw (sym eg ∙ e, ex, er))

-- the order of reports
pub after_some : (o : Option RequestId) (id own : RequestId) (b : Bool) → o ≡ Some own → b ≡ request_before own id → b ≡ comes_after o id
after_some o id own b e eb = eb ∙ rw e

pub beats_at : (rows : List Row) (best : Option ℕ) (id own : RequestId) (i : ℕ) (b : Bool) → best ≡ Some i → own ≡ id_in rows i → b ≡ request_before id own
    → b ≡ beats (report_at best rows) id
beats_at rows best id own i b e eo eb = eb ∙ rw (e, eo)

-- whether a row has a report
module _ (f : InFlight) (row : Row) (u : Bool) (eu : u ≡ row.used) where
  pub shown_free : not u ≡ true → false ≡ is_shown f row
  unfolding is_shown
  shown_free t = rw (sym eu ∙ not-true u t)

  pub shown_used : (id : RequestId) (a : Bool) → not u ≡ false → id ≡ row.id → a ≡ is_submitting f id → not a ≡ is_shown f row
  unfolding is_shown
  shown_used id a t ei ea = rw (sym eu ∙ not-false u t, ea, ei)

-- the best of the rows: what is left leads to the whole
best-suc : (f : InFlight) (o : Option RequestId) (l : List Row) (best : Option RequestReport) (i : ℕ) → i < length l
    → best_from f o best (drop i l) ≡ best_from f o (better f o best (get_or l i empty_row)) (drop (suc i) l)
best-suc f o [] best i h = absurd (omega arith)
best-suc f o (r ∷ rows) best zero h = refl
best-suc f o (r ∷ rows) best (suc i) h = best-suc f o rows best i (le_of_suc-le-suc h)

best_past : (f : InFlight) (o : Option RequestId) (l : List Row) (best : Option RequestReport) (i : ℕ) → length l ≤ i → best_from f o best (drop i l) ≡ best
best_past f o [] best zero h = refl
best_past f o [] best (suc i) h = refl
best_past f o (r ∷ rows) best zero h = absurd (omega arith)
best_past f o (r ∷ rows) best (suc i) h = best_past f o rows best i (le_of_suc-le-suc h)

-- the best by place is the best by report
place_report : (f : InFlight) (o : Option RequestId) (l : List Row) (best : Option ℕ) (i : ℕ) → report_at (better_at f o l best i) l ≡ better f o (report_at best l) (row_in l i)
unfolding better_at better ◌if◌else◌
place_report f o l best i = caseB (is_better f o (report_at best l) (row_in l i)) (λ e. rw e) (λ e. rw e)

-- how many rows there are up to a place, with its own
abbrev pub up_to : Option ℕ → ℕ
up_to (Some i) = i + 1
up_to None = 0

-- the fold over the places of the rows that have a report after the id
module _ (f : InFlight) (o : Option RequestId) (l : List Row) where
  abbrev pub shown_after : ℕ → Bool
  shown_after i = is_better f o None (row_in l i)

  abbrev pub earlier_in : Option ℕ → ℕ → Option ℕ
  earlier_in best i = cond (beats (report_at best l) (row_in l i).id) (Some i) best

  abbrev pub folded_place : Option ℕ → ℕ → ℕ → Option ℕ
  folded_place best i k = fold earlier_in best (filter shown_after (range_with_len i k))

  -- of the rows that have a report after the id the one earlier by id is the better, and no other row is better
  better_shown : (x : Option RequestReport) (r : Row) → is_better f o x r ≡ (is_better f o None r && beats x r.id)
  better_shown x r = by (is_shown f r && comes_after o r.id) (beats x r.id)
    where
      by : (t q : Bool) → (t && q) ≡ ((t && true) && q)
      by true q = refl
      by false q = refl

  better_earlier : (best : Option ℕ) (i : ℕ) → shown_after i ≡ true → better_at f o l best i ≡ earlier_in best i
  unfolding better_at ◌if◌else◌
  better_earlier best i e =
      caseB (beats (report_at best l) (row_in l i).id)
      (λ u. rw (better_shown (report_at best l) (row_in l i), e, u) refl)
      (λ u. rw (better_shown (report_at best l) (row_in l i), e, u) refl)

  better_other : (best : Option ℕ) (i : ℕ) → shown_after i ≡ false → better_at f o l best i ≡ best
  unfolding better_at ◌if◌else◌
  better_other best i e = rw (better_shown (report_at best l) (row_in l i), e) refl

  cond_near : (n i : ℕ) (best : Option ℕ) (t : Bool) → up_to (Some i) ≤ n → up_to best ≤ n → up_to (cond t (Some i) best) ≤ n
  cond_near n i best true g h = g
  cond_near n i best false g h = h

  fold_near : (k i : ℕ) (best : Option ℕ) → i + k ≡ length l → up_to best ≤ length l → up_to (folded_place best i k) ≤ length l
  fold_near zero i best e h = h
  fold_near (suc k) i best e h =
      caseB (shown_after i)
      (λ u. rw u (fold_near k (i + 1) (earlier_in best i) (omega arith) (cond_near (length l) i best _ (omega arith) h)))
      (λ u. rw u (fold_near k (i + 1) best (omega arith) h))

  fold_best : (k i : ℕ) (best : Option ℕ) → i + k ≡ length l → report_at (folded_place best i k) l ≡ best_from f o (report_at best l) (drop i l)
  fold_best zero i best e = sym (best_past f o l (report_at best l) i (omega arith))
  fold_best (suc k) i best e =
      let rest : Option ℕ → Option RequestReport = λ x. best_from f o (report_at x l) (drop (i + 1) l) in
      let on : rest (better_at f o l best i) ≡ best_from f o (report_at best l) (drop i l)
      = rw (place_report f o l best i, add-one) (sym (best-suc f o l (report_at best l) i (omega arith))) in
      caseB (shown_after i)
      (λ u. rw u (fold_best k (i + 1) (earlier_in best i) (omega arith) ∙ ap rest (sym (better_earlier best i u)) ∙ on))
      (λ u. rw u (fold_best k (i + 1) best (omega arith) ∙ ap rest (sym (better_other best i u)) ∙ on))

  inside : (best : Option ℕ) → up_to best ≤ length l → IfSome best (λ i. i < length l)
  inside None h = tt
  inside (Some i) h = omega arith

  module _ (best : Option ℕ) (n : ℕ) (e : n ≡ length l) (eb : best ≡ folded_place None 0 n) where
    pub folded_inside : IfSome best (λ i. i < length l)
    folded_inside = inside best (rw (eb, e) (fold_near (length l) 0 None (omega arith) (omega arith)))

    pub folded_best : report_at best l ≡ best_from f o None l
    folded_best = rw (eb, e) (fold_best (length l) 0 None (omega arith))

-- how many have a report
abbrev pub Counted : InFlight → List Row → ℕ → ℕ → Type 0
Counted f l i total = (total ≤ i) × (total ≡ count (is_shown f) (take i l))

byte_word : (b : Bool) → bool_byte b ≡ cond {A = ℕ} b 1 0
byte_word true = refl
byte_word false = refl

pub byte_most : (b : Bool) → bool_byte b ≤ 1
byte_most true = omega arith
byte_most false = omega arith

module _ (f : InFlight) (l : List Row) (n i total : ℕ) (e : n ≡ length l) (k : total ≡ count (is_shown f) (take i l)) where
  pub shown_more : (b : Bool) (word : ℕ) → i < n → b ≡ is_shown f (row_in l i) → word ≡ bool_byte b → total + word ≡ count (is_shown f) (take (i + 1) l)
  shown_more b word h eb ew = count_on (is_shown f) l i total word (omega arith) k (ew ∙ rw eb (byte_word (is_shown f (row_in l i))))

  pub shown_end : n ≤ i → total ≡ count (is_shown f) l
  shown_end h = k ∙ rw (take_all i l (omega arith))

-- by the sizes
module _ (s : Session) (store : Store) (v : Result ⊤ Refusal) (ev : v ≡ sized_of (store_fits s.size store)) where
  module _ (r : Refusal) (t : v ≡ Err r) where
    pub next_unfit : (o : Option RequestId) → Err r ≡ next_of o s store
    unfolding next_of
    next_unfit o = sized_stop (Result (Option RequestReport) Refusal) Err _ _ _ v ev r t refl

    pub shown_unfit : Err r ≡ shown_count s store
    unfolding shown_count
    shown_unfit = sized_stop (Result ℕ Refusal) Err _ _ _ v ev r t refl

    pub held_unfit : Err r ≡ held_count_of s store
    unfolding held_count_of
    held_unfit = sized_stop (Result ℕ Refusal) Err _ _ _ v ev r t refl

    pub bytes_unfit : Err r ≡ held_bytes_of s store
    unfolding held_bytes_of
    bytes_unfit = sized_stop (Result ℕ Refusal) Err _ _ _ v ev r t refl

  module _ (t : v ≡ Ok tt) where
    pub next_on : (o : Option RequestId) (x : Option RequestReport) → x ≡ best_from s.in_flight o None store.rows → Ok x ≡ next_of o s store
    unfolding next_of
    next_on o x e = sized_on (Result (Option RequestReport) Refusal) Err _ _ _ v ev t (ap Ok e)

    pub shown_on : (n : ℕ) → n ≡ count (is_shown s.in_flight) store.rows → Ok n ≡ shown_count s store
    unfolding shown_count
    shown_on n e = sized_on (Result ℕ Refusal) Err _ _ _ v ev t (ap Ok e)

    pub held_on : (n : ℕ) → n ≡ held_count 8 store.rows → Ok n ≡ held_count_of s store
    unfolding held_count_of
    held_on n e = sized_on (Result ℕ Refusal) Err _ _ _ v ev t (ap Ok e)

    pub bytes_on : (n : ℕ) → n ≡ held_bytes 64 store.rows → Ok n ≡ held_bytes_of s store
    unfolding held_bytes_of
    bytes_on n e = sized_on (Result ℕ Refusal) Err _ _ _ v ev t (ap Ok e)

-- where the bytes of a Completed request stand
module _ (id : RequestId) (size : ℕ) (s : Session) (store : Store) (v : Result ⊤ Refusal) (ev : v ≡ sized_of (memory_sizes s.size (length store.words) size)) where
  pub part_unfit : (r : Refusal) → v ≡ Err r → Err r ≡ completed_part id size s store
  unfolding completed_part
  part_unfit r e = sized_stop (Result Part Refusal) Err _ _ _ v ev r e refl

  module _ (t : v ≡ Ok tt) (g : Option ℕ) (eg : g ≡ shown_at s.in_flight id store.rows) where
    pub part_none : (r : Refusal) → g ≡ None → r ≡ refusal_of 40 → Err r ≡ completed_part id size s store
    unfolding completed_part part_by
    part_none r e er = sized_on (Result Part Refusal) Err _ _ _ v ev t (rw (sym eg ∙ e, er))

    pub part_at : (i len n : ℕ) (row : Row) (p : Place) → g ≡ Some i → row ≡ get_or store.rows i empty_row → p ≡ place_of s.size i
        → len ≡ completed_length row.state → n ≡ min len s.size.row_bytes → Ok (bytes_part p.start n) ≡ completed_part id size s store
    unfolding completed_part part_by
    part_at i len n row p e er ep el en = sized_on (Result Part Refusal) Err _ _ _ v ev t (rw (sym eg ∙ e, en, el, er, ep))

-- where row i's bytes start there
pub part_small : (z : Size) (w : List ℕ) (size : ℕ) (v : Result ⊤ Refusal) → v ≡ sized_of (memory_sizes z (length w) size) → v ≡ Ok tt
    → (i : ℕ) → i < length (read_rows w) → i * z.row_bytes < 2 ^ 64
part_small z w size v ev t i h = omega (arith, place_small z w size (sized_fits _ v ev t) i h)

-- a part, or none where it is refused
pub part_is : (a : Result Part Refusal) (o : Part) → a ≡ Ok o → o ≡ part_of a
part_is a o e = rw e

-- it lies inside the area
module _ (id : RequestId) (s : Session) (w area : List ℕ) where
  abbrev Answer : Result Part Refusal
  Answer = completed_part id (length area) s (store_of w)

  abbrev Inside : Result Part Refusal → Type 0
  Inside a = (part_of a).start + (part_of a).length ≤ length area

  part_by_lem : (g : Option ℕ) → g ≡ shown_at s.in_flight id (read_rows w) → memory_sizes s.size (length w) (length area) ≡ true
      → Inside (part_by g s.size.row_bytes (read_rows w))
  unfolding part_by
  part_by_lem None eg t = omega arith
  part_by_lem (Some i) eg t =
      omega (
        arith,
        place_in_lem s.size w (length area) t i (shown_in s.in_flight id (read_rows w) _ i eg refl),
        min-le_right (completed_length (get_or (read_rows w) i empty_row).state) s.size.row_bytes,
      )

  part_fit : (fits : Bool) → fits ≡ memory_sizes s.size (length w) (length area)
      → Inside (Err (refusal_of 3) if not fits else part_by (shown_at s.in_flight id (read_rows w)) s.size.row_bytes (read_rows w))
  unfolding ◌if◌else◌
  part_fit true e = part_by_lem (shown_at s.in_flight id (read_rows w)) refl (sym e)
  part_fit false e = omega arith

  fitting : Inside Answer
  unfolding completed_part store_of
  fitting = part_fit _ refl

  module _ (a : Result Part Refusal) (o : Part) (ea : a ≡ Answer) (eo : o ≡ part_of a) where
    pub part_inside : o.start + o.length ≤ length area
    part_inside = rw (eo, ea) fitting

    pub part_fits : Fits w64 (length area) → Fits w64 (o.start + o.length)
    part_fits f = omega (arith, f, part_inside)

    pub part_bytes : take (o.start + o.length - o.start) (drop o.start area) ≡ bytes_of Answer area
    unfolding bytes_of
    part_bytes = let z : o.start + o.length - o.start ≡ o.length = omega arith in rw (z, eo, ea)
