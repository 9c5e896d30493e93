-- The rows that a recovery affects and the entries that it affects are the same, one by one. Assumes nothing.
use Prim.Native.Nat.{ℕ, zero, suc, ◌≤◌}
use mathlib.Core.Path.{◌≡◌, refl, sym, ap, ◌∙◌, subst}
use mathlib.Core.Bool.{Bool, true, false, cond, ◌&&◌}
use mathlib.Core.List.{List, [], ◌∷◌, map}
use native.Mathlib.Omega.{arith}
use lib.Dec.{eqb}
use lib.ListN.{length}
use Rattle.chain.specs.Lists.{sum_by, only, count}
use Rattle.chain.proofs.Chain.{caseB}
use Rattle.chain.proofs.Lists.{sum_eq, sum_le}
use Rattle.models.specs.Requests.{same_device}
use Rattle.models.specs.declared.{DeviceId.DeviceId, RequestId.RequestId}
use Rattle.rows.specs.Table.{is_held, row_in, id_in}
use Rattle.rows.specs.declared.{Row.Row}
use Rattle.scope.specs.Affected.{is_affected, comes_before, insert_row, affected_of}
use Rattle.runs.proofs.Affected.{all_up_to, affected_all, affected_weigh}
use Rattle.history.specs.Journal.{Entry, is_open, is_entry, of_scope, insert_view, affected_views, View}
use Rattle.history.specs.Claim.{row_view}
use Rattle.history.proofs.Led.{cond_and, row_w, entry_w, each, is_view, Led}
use Rattle.history.proofs.Ordered.{Sorted, sum_insert, insert_sorted, sorted_same}

module _ (d : DeviceId) (endpoint : ℕ) where
  abbrev scoped : (View → ℕ) → View → ℕ
  scoped w v = only (of_scope d endpoint) w v

  -- ---- entries
  entries_weigh : (w : View → ℕ) (es : List Entry) → sum_by w (affected_views d endpoint es) ≡ sum_by (entry_w (scoped w)) es
  entries_weigh w [] = refl
  entries_weigh w (e ∷ es) =
      let ih = entries_weigh w es in
      let z = cond_and (is_open e) (of_scope d endpoint e.view) (w e.view) in
      caseB (is_open e && of_scope d endpoint e.view)
      (λ y. let q : entry_w (scoped w) e ≡ w e.view = sym z ∙ rw y in rw y (omega (arith, sum_insert w e.view (affected_views d endpoint es), ih, q)))
      (λ y. let q : entry_w (scoped w) e ≡ 0 = sym z ∙ rw y in rw y (omega (arith, ih, q)))

  entries_sorted : (es : List Entry) → Sorted (affected_views d endpoint es)
  entries_sorted [] = tt
  entries_sorted (e ∷ es) =
      caseB (is_open e && of_scope d endpoint e.view)
      (λ y. rw y (insert_sorted e.view (affected_views d endpoint es) (entries_sorted es)))
      (λ y. rw y (entries_sorted es))

  -- ---- rows
  abbrev pub seen : List Row → ℕ → View
  seen rows i = row_view (row_in rows i)

  insert_seen : (rows : List Row) (i : ℕ) (l : List ℕ) → map (seen rows) (insert_row rows i l) ≡ insert_view (seen rows i) (map (seen rows) l)
  insert_seen rows i [] = refl
  insert_seen rows i (j ∷ js) =
      let ih = insert_seen rows i js in
      caseB (comes_before rows (id_in rows i) j) (λ e. rw e) (λ e. rw e (ap (λ (z : List View). seen rows j ∷ z) ih))

  affected_cond : (r : Row) (n : ℕ) → cond (is_affected d endpoint r) n 0 ≡ cond (is_held r) (cond (of_scope d endpoint (row_view r)) n 0) 0
  unfolding is_affected
  affected_cond r n = go (is_held r) (same_device r.metadata.device d) (eqb r.metadata.endpoint endpoint)
    where
      go : (a b c : Bool) → cond (a && b && c) n 0 ≡ cond a (cond (b && c) n 0) 0
      go true b c = refl
      go false b c = refl

  rows_sorted : (rows : List Row) (n : ℕ) → Sorted (map (seen rows) (all_up_to d endpoint rows n))
  rows_sorted rows zero = tt
  rows_sorted rows (suc n) =
      let m = insert_seen rows n (all_up_to d endpoint rows n) in
      caseB (is_affected d endpoint (row_in rows n))
      (λ y. rw (y, m) (insert_sorted (seen rows n) (map (seen rows) (all_up_to d endpoint rows n)) (rows_sorted rows n)))
      (λ y. rw y (rows_sorted rows n))

  sum_seen : (w : View → ℕ) (rows : List Row) (l : List ℕ) → sum_by w (map (seen rows) l) ≡ sum_by (λ i. w (seen rows i)) l
  sum_seen w rows [] = refl
  sum_seen w rows (i ∷ l) = omega (arith, sum_seen w rows l)

  -- the affected rows weigh as all rows do, in the scope
  rows_weigh : (w : View → ℕ) (rows : List Row) → count is_held rows ≤ 128 → sum_by w (map (seen rows) (affected_of d endpoint rows)) ≡ sum_by (row_w (scoped w)) rows
  rows_weigh w rows few =
      sum_seen w rows (affected_of d endpoint rows) ∙ affected_weigh d endpoint rows few (λ r. w (row_view r))
      ∙ sum_eq (only (is_affected d endpoint) (λ r. w (row_view r))) (row_w (scoped w)) rows (λ r. affected_cond r (w (row_view r)))

  -- ---- the same views
  module _ (rows : List Row) (entries : List Entry) (few : count is_held rows ≤ 128) (k : Led rows entries) where
    once_view : (x : RequestId) → sum_by (only (is_view x) each) (affected_views d endpoint entries) ≤ 1
    once_view x =
        omega (
          arith,
          entries_weigh (only (is_view x) each) entries,
          k.once x,
          sum_le (entry_w (scoped (only (is_view x) each))) (only (is_entry x) (λ e. 1)) entries less,
        )
      where
        less : (e : Entry) → entry_w (scoped (only (is_view x) each)) e ≤ only (is_entry x) (λ y. 1) e
        less e = caseB (is_open e)
            (λ o. rw o (caseB (of_scope d endpoint e.view) (λ s. rw s (omega arith)) (λ s. rw s (omega arith))))
            (λ o. rw o (omega arith))

    pub affected_same : map (seen rows) (affected_of d endpoint rows) ≡ affected_views d endpoint entries
    affected_same =
        sorted_same (map (seen rows) (affected_of d endpoint rows)) (affected_views d endpoint entries)
        (λ w. rows_weigh w rows few ∙ k.same (scoped w) ∙ sym (entries_weigh w entries))
        (subst (λ (l : List ℕ). Sorted (map (seen rows) l)) (sym (affected_all d endpoint rows few)) (rows_sorted rows (length rows))) (entries_sorted entries) once_view
