-- Changes in place: what the row's words say of the step, and what a caller knows of the place. Assumes nothing.
use Rattle.std.specs.Prelude.{Option, Some, None, Result, Ok, Err}
use Prim.Native.Nat.{ℕ, ◌<◌}
use mathlib.Core.Path.{◌≡◌, refl, sym, ap, subst, ◌∙◌}
use mathlib.Core.Bool.{Bool, true, false, not}
use mathlib.Core.List.{List}
use native.Mathlib.Omega.{arith}
use lib.ListN.{length, set, length-set}
use lib.Seq.{get_or-set_same}
use borrow.Author.Tests.{not-true}
use Rattle.chain.specs.After.{After, after}
use Rattle.chain.specs.Chain.{◌if◌else◌}
use Rattle.chain.specs.Lists.{find, found_in}
use Rattle.chain.proofs.Chain.{both, fits_told, if_by}
use Rattle.chain.proofs.Lists.{place}
use Rattle.models.specs.Refusals.{refusal_of}
use Rattle.models.specs.Requests.{device_may_access, is_pending, same_request}
use Rattle.models.specs.declared.{Refusal.Refusal, RequestId.RequestId, RequestReport.RequestReport, RequestState.RequestState}
use Rattle.models.specs.declared.RequestState.TheVariants.{Pending, Completed, Failed, Aborted}
use Rattle.rows.specs.Table.{read_rows, empty_row, row_in, row_at, is_held, is_pending_row, report_of, with_token}
use Rattle.rows.specs.Store.{Store, store_of, put_in}
use Rattle.rows.specs.InPlace.{cancelled, timed_out}
use Rattle.rows.specs.declared.{Row.Row}
use Rattle.rules.specs.Rules.{refused_by, moved, freed, accepted, while_pending, logical_cancel, time_out, reclaimed, change_row}
use Rattle.rules.specs.declared.{Change.Change, Step.Step}
use Rattle.ledger.specs.Search.{is_at, place_to_change}
use Rattle.ledger.specs.Apply.{apply_by, changed_at, apply_at, apply_of}
use Rattle.ledger.specs.InPlace.{row_placed, apply_placed, reported_at, freed_at, PlacedIn}
use Rattle.ledger.proofs.Found.{found_row, place_told, place_in}
use Rattle.ledger.proofs.Changes.{apply_none}

-- what only a Pending row takes
settled : (s : RequestState) (next : Result Step Refusal) → is_pending s ≡ false → while_pending s next ≡ refused_by 41
unfolding while_pending
settled (Pending cancel late) next e = let z : ◌≡◌ {A = ℕ} 0 1 = cc in absurd (omega arith)
settled (Completed actual code cancel) next e = refl
settled (Failed error code quiescent) next e = refl
settled Aborted next e = refl

pub pending : (s : RequestState) (next : Result Step Refusal) → is_pending s ≡ true → while_pending s next ≡ next
unfolding while_pending
pending (Pending cancel late) next e = refl
pending (Completed actual code cancel) next e = let z : ◌≡◌ {A = ℕ} 0 1 = cc in absurd (omega arith)
pending (Failed error code quiescent) next e = let z : ◌≡◌ {A = ℕ} 0 1 = cc in absurd (omega arith)
pending Aborted next e = let z : ◌≡◌ {A = ℕ} 0 1 = cc in absurd (omega arith)

-- a row that was put is read back
module _ (l m : List ℕ) (i : ℕ) (r : Row) (h : i < length (read_rows l)) (e : store_of m ≡ put_in (store_of l) i r) where
  rows_put : read_rows m ≡ set (read_rows l) i r
  unfolding store_of put_in
  rows_put = ap (λ (s : Store). s.rows) e

  pub still_in : i < length (read_rows m)
  still_in = rw (rows_put, length-set (read_rows l) i r) h

  pub read_back : row_at m i ≡ r
  read_back = rw rows_put (get_or-set_same (read_rows l) i r empty_row h)

-- the place with the answer of `apply_of`
module _ (id : RequestId) (c : Change) (s : Store) where
  placed_by_lem : (a : Result RequestReport Refusal) (left : Store) → after a left ≡ apply_of id c s → after (row_placed a (find (is_at id) s.rows)) left ≡ apply_placed id c s
  unfolding apply_placed
  placed_by_lem a left e = ap (λ (o : After (Result RequestReport Refusal) Store). after (row_placed o.result (find (is_at id) s.rows)) o.lent) e

  pub placed_none : (f : Result ℕ Refusal) (r : Refusal) → f ≡ place_to_change id s.rows → f ≡ Err r → after (Err r) s ≡ apply_placed id c s
  placed_none f r ef e = placed_by_lem (Err r) s (apply_none id c s f ef r e)

  pub reclaim_none : (f : Result ℕ Refusal) (r : Refusal) → f ≡ place_to_change id s.rows → f ≡ Err r → Err r ≡ (apply_placed id c s).result
  reclaim_none f r ef e = ap (λ (o : After (Result ℕ Refusal) Store). o.result) (placed_none f r ef e)

-- the row that was found
module _ (id : RequestId) (l : List ℕ) (f : Result ℕ Refusal) (i : ℕ) (ef : f ≡ place_to_change id (read_rows l)) (e : f ≡ Ok i) where
  told : found_in (is_at id) (read_rows l) ≡ Some i
  told = place_told id (read_rows l) f ef i e

  within : i < length (read_rows l)
  within = place_in id (read_rows l) f ef i e

  first : find (is_at id) (store_of l).rows ≡ i
  unfolding store_of
  first = sym (place (is_at id) (read_rows l) empty_row (found_in (is_at id) (read_rows l)) i refl told).index

  used_row : (row_at l i).used ≡ true
  unfolding is_at
  used_row = (both (row_at l i).used (same_request (row_at l i).id id) (found_row id (read_rows l) (found_in (is_at id) (read_rows l)) i refl told).1).0

  -- its step is the change's
  step_is : (c : Change) (x : Result Step Refusal) → change_row (row_at l i) c ≡ x → apply_of id c (store_of l) ≡ apply_by x i (store_of l)
  unfolding apply_of apply_at changed_at store_of
  step_is c x s = rw (told, s)

  refused_is : (c : Change) (n : ℕ) (r : Refusal) → change_row (row_at l i) c ≡ refused_by n → r ≡ refusal_of n
      → after (Err r) (store_of l) ≡ apply_placed id c (store_of l)
  unfolding apply_by
  refused_is c n r s er = placed_by_lem id c (store_of l) (Err r) (store_of l) (rw er (sym (step_is c (refused_by n) s)))

  placed_at : (c : Change) (x : RequestReport) (left : Store) → after (Ok x) left ≡ apply_of id c (store_of l)
      → after (Ok i) left ≡ apply_placed id c (store_of l)
  placed_at c x left e = ap (λ (k : ℕ). after (Ok k) left) (sym first) ∙ placed_by_lem id c (store_of l) (Ok x) left e

  moved_is : (c : Change) (next : Row) (m : List ℕ) → change_row (row_at l i) c ≡ moved next → store_of m ≡ put_in (store_of l) i next
      → after (Ok i) (store_of m) ≡ apply_placed id c (store_of l)
  unfolding apply_by moved
  moved_is c next m s w = placed_at c (report_of next) (store_of m) (rw w (sym (step_is c (moved next) s)))

  -- accept, of any row
  pub accept_in : (b : Bool) → b ≡ is_pending_row (row_at l i) → b ≡ true → (i < length (read_rows l)) × (is_pending_row (row_at l i) ≡ true)
  accept_in b eb y = (within, sym eb ∙ y)

  module _ (token : ℕ) (m : List ℕ) where
    pub accept_done : store_of m ≡ put_in (store_of l) i (with_token (row_at l i) token) → after (Ok i) (store_of m) ≡ apply_placed id (Change.Accept token) (store_of l)
    unfolding change_row accepted
    accept_done w = moved_is (Change.Accept token) (with_token (row_at l i) token) m refl w

    pub accept_row : (row : Row) → row ≡ row_at l i → store_of m ≡ put_in (store_of l) i (with_token row token)
        → after (Ok i) (store_of m) ≡ apply_placed id (Change.Accept token) (store_of l)
    accept_row row er w = accept_done (w ∙ ap (λ (y : Row). put_in (store_of l) i (with_token y token)) er)

  -- cancel and timeout: 41 where the row is not Pending
  module _ (b : Bool) (eb : b ≡ is_pending_row (row_at l i)) where
    state_pending : is_pending (row_at l i).state ≡ b
    unfolding is_pending_row
    state_pending = sym (eb ∙ rw used_row)

    pub cancel_no : (r : Refusal) → not b ≡ true → r ≡ refusal_of 41 → after (Err r) (store_of l) ≡ apply_placed id Change.LogicalCancel (store_of l)
    unfolding change_row logical_cancel
    cancel_no r y er = refused_is Change.LogicalCancel 41 r (settled (row_at l i).state _ (state_pending ∙ not-true b y)) er

    pub timeout_no : (r : Refusal) → not b ≡ true → r ≡ refusal_of 41 → after (Err r) (store_of l) ≡ apply_placed id Change.Timeout (store_of l)
    unfolding change_row time_out
    timeout_no r y er = refused_is Change.Timeout 41 r (settled (row_at l i).state _ (state_pending ∙ not-true b y)) er

    pub pending_in : not b ≡ false → (i < length (read_rows l)) × (is_pending_row (row_at l i) ≡ true)
    pending_in y = (within, fits_told b (is_pending_row (row_at l i)) eb y)

    module _ (m : List ℕ) (y : not b ≡ false) where
      pub cancel_done : store_of m ≡ put_in (store_of l) i (cancelled (row_at l i)) → after (Ok i) (store_of m) ≡ apply_placed id Change.LogicalCancel (store_of l)
      unfolding change_row logical_cancel
      cancel_done w = moved_is Change.LogicalCancel (cancelled (row_at l i)) m (pending (row_at l i).state _ (state_pending ∙ fits_told b b refl y)) w

      pub timeout_done : store_of m ≡ put_in (store_of l) i (timed_out (row_at l i)) → after (Ok i) (store_of m) ≡ apply_placed id Change.Timeout (store_of l)
      unfolding change_row time_out
      timeout_done w = moved_is Change.Timeout (timed_out (row_at l i)) m (pending (row_at l i).state _ (state_pending ∙ fits_told b b refl y)) w

  -- reclaim: 42 where it is held
  module _ (b : Bool) (eb : b ≡ is_held (row_at l i)) where
    state_held : device_may_access (row_at l i).state ≡ b
    unfolding is_held
    state_held = sym (eb ∙ rw used_row)

    pub reclaim_no : (r : Refusal) → b ≡ true → r ≡ refusal_of 42 → Err r ≡ (apply_placed id Change.Reclaim (store_of l)).result
    unfolding change_row reclaimed ◌if◌else◌
    reclaim_no r y er = ap (λ (o : After (Result ℕ Refusal) Store). o.result) (refused_is Change.Reclaim 42 r (rw (state_held ∙ y)) er)

    pub reclaim_at : b ≡ false → Ok i ≡ (apply_placed id Change.Reclaim (store_of l)).result
    unfolding change_row reclaimed ◌if◌else◌ apply_by freed
    reclaim_at y =
        ap (λ (o : After (Result ℕ Refusal) Store). o.result)
        (placed_at Change.Reclaim (report_of (row_at l i)) (put_in (store_of l) i empty_row) (sym (step_is Change.Reclaim (freed (row_at l i)) (rw (state_held ∙ y)))))

-- ---- what a caller knows: the row is inside, and its report is the change's answer
pub placed_in : (p : Result ℕ Refusal) (i : ℕ) (rows : List Row) → p ≡ Ok i → PlacedIn p rows → i < length rows
placed_in p i rows e h = rw e at h

module _ (id : RequestId) (s : Store) where
  -- what holds at the first row of the id, and of no row, holds of the change
  by_place : (c : Change) (P : After (Result RequestReport Refusal) Store → ℕ → Type 0) → ((i : ℕ) → i < length s.rows → P (changed_at i c s) i)
      → P (after (Err (refusal_of 40)) s) (find (is_at id) s.rows) → P (apply_of id c s) (find (is_at id) s.rows)
  unfolding apply_of apply_at
  by_place c P go none = by_found (found_in (is_at id) s.rows) refl
    where
      by_found : (f : Option ℕ) → f ≡ found_in (is_at id) s.rows → P (apply_at f c s) (find (is_at id) s.rows)
      by_found None e = none
      by_found (Some i) e =
          let z = place (is_at id) s.rows empty_row (Some i) i e refl in subst (P (changed_at i c s)) z.index (go i z.below)

  -- a change that reports the row as it then is
  abbrev Moves : Result Step Refusal → Type 0
  Moves (Err r) = Unit {0}
  Moves (Ok n) = n.report ≡ report_of n.row

  abbrev Reported : After (Result RequestReport Refusal) Store → ℕ → Type 0
  Reported o i = (after (reported_at (row_placed o.result i) o.lent.rows) o.lent ≡ o) × PlacedIn (row_placed o.result i) o.lent.rows

  by_step : (t : Result Step Refusal) → Moves t → (i : ℕ) → i < length s.rows → Reported (apply_by t i s) i
  unfolding apply_by put_in
  by_step (Err r) e i h = (refl, tt)
  by_step (Ok n) e i h =
      (ap (λ (y : RequestReport). after (Ok y) (put_in s i n.row)) (ap report_of (get_or-set_same s.rows i n.row empty_row h) ∙ sym e), rw (length-set s.rows i n.row) h)

  module _ (c : Change) (moves : (r : Row) → Moves (change_row r c)) (p : Result ℕ Refusal) (left : Store) (e : after p left ≡ apply_placed id c s) where
    reported : Reported (apply_of id c s) (find (is_at id) s.rows)
    unfolding changed_at
    reported = by_place c Reported (λ i h. by_step (change_row (row_in s.rows i) c) (moves _) i h) (refl, tt)

    reports : after (reported_at p left.rows) left ≡ apply_of id c s
    unfolding apply_placed
    reports = subst (λ (y : After (Result ℕ Refusal) Store). after (reported_at y.result y.lent.rows) y.lent ≡ apply_of id c s) (sym e) reported.0

    inside : PlacedIn p left.rows
    unfolding apply_placed
    inside = subst (λ (y : After (Result ℕ Refusal) Store). PlacedIn y.result y.lent.rows) (sym e) reported.1

  while_moves : (x : RequestState) (next : Row) → Moves (while_pending x (moved next))
  unfolding while_pending moved
  while_moves (Pending cancel late) next = refl
  while_moves (Completed actual code cancel) next = tt
  while_moves (Failed error code quiescent) next = tt
  while_moves Aborted next = tt

  module _ (p : Result ℕ Refusal) where
    module _ (token : ℕ) where
      pub accept_reports : (left : Store) → after p left ≡ apply_placed id (Change.Accept token) s → after (reported_at p left.rows) left ≡ apply_of id (Change.Accept token) s
      unfolding change_row accepted moved
      accept_reports left e = reports (Change.Accept token) (λ r. refl) p left e

      pub accept_inside : (m : List ℕ) (i : ℕ) → after p (store_of m) ≡ apply_placed id (Change.Accept token) s → p ≡ Ok i → i < length (read_rows m)
      unfolding change_row accepted moved store_of
      accept_inside m i e ep = placed_in p i (read_rows m) ep (inside (Change.Accept token) (λ r. refl) p (store_of m) e)

    pub cancel_reports : (left : Store) → after p left ≡ apply_placed id Change.LogicalCancel s → after (reported_at p left.rows) left ≡ apply_of id Change.LogicalCancel s
    unfolding change_row logical_cancel
    cancel_reports left e = reports Change.LogicalCancel (λ r. while_moves r.state _) p left e

    pub cancel_inside : (m : List ℕ) → after p (store_of m) ≡ apply_placed id Change.LogicalCancel s → PlacedIn p (read_rows m)
    unfolding change_row logical_cancel store_of
    cancel_inside m e = inside Change.LogicalCancel (λ r. while_moves r.state _) p (store_of m) e

    pub timeout_reports : (left : Store) → after p left ≡ apply_placed id Change.Timeout s → after (reported_at p left.rows) left ≡ apply_of id Change.Timeout s
    unfolding change_row time_out
    timeout_reports left e = reports Change.Timeout (λ r. while_moves r.state _) p left e

    pub timeout_inside : (m : List ℕ) → after p (store_of m) ≡ apply_placed id Change.Timeout s → PlacedIn p (read_rows m)
    unfolding change_row time_out store_of
    timeout_inside m e = inside Change.Timeout (λ r. while_moves r.state _) p (store_of m) e

  -- a reclaim frees the row, which is reported as it was
  abbrev Freed : After (Result RequestReport Refusal) Store → ℕ → Type 0
  Freed o i = (freed_at (row_placed o.result i) s ≡ o) × PlacedIn (row_placed o.result i) s.rows

  module _ (p : Result ℕ Refusal) (e : p ≡ (apply_placed id Change.Reclaim s).result) where
    is_freed : Freed (apply_of id Change.Reclaim s) (find (is_at id) s.rows)
    unfolding changed_at apply_by change_row reclaimed freed
    is_freed =
        by_place Change.Reclaim Freed
        (λ i h. if_by (λ (t : Result Step Refusal). Freed (apply_by t i s) i) _ _ _ (λ y. (refl, tt)) (λ y. (refl, h))) (refl, tt)

    pub reclaim_frees : freed_at p s ≡ apply_of id Change.Reclaim s
    unfolding apply_placed
    reclaim_frees = subst (λ (y : Result ℕ Refusal). freed_at y s ≡ apply_of id Change.Reclaim s) (sym e) is_freed.0

    freed_inside : PlacedIn p s.rows
    unfolding apply_placed
    freed_inside = subst (λ (y : Result ℕ Refusal). PlacedIn y s.rows) (sym e) is_freed.1

pub reclaim_inside : (id : RequestId) (l : List ℕ) (p : Result ℕ Refusal) → p ≡ (apply_placed id Change.Reclaim (store_of l)).result → PlacedIn p (read_rows l)
unfolding store_of
reclaim_inside id l p e = freed_inside id (store_of l) p e
