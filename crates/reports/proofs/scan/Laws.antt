-- One law for each way out of reports in the order of the rows: its premises are the facts in hand there. Assumes nothing.
use Rattle.std.specs.Prelude.{Option, Some, None, Result, Ok, Err, ⊤}
use Rattle.std.proofs.Common.{option_map}
use Rattle.std.specs.Option.{MatchOption, IsSomeAnd}
use Rattle.std.proofs.lemmas.Iterator.Adapters.{option_map_id}
use Rattle.std.proofs.lemmas.List.{drop_more}
use Rattle.std.specs.List.{range_with_len, find as first}
use Prim.Native.Nat.{ℕ, zero, suc, ◌+◌, ◌-◌, ◌<◌}
use mathlib.Core.Bool.{Bool, cond}
use mathlib.Core.List.{List}
use mathlib.Core.Path.{◌≡◌, refl, sym, ap, ◌∙◌}
use native.Mathlib.Omega.{arith}
use lib.ListN.{length, get_or, drop, length-drop}
use borrow.Author.Tests.{lt-ltb, le-ltb, ltb-true, ltb-false}
use Rattle.chain.specs.Lists.{find, any_in}
use Rattle.chain.proofs.Chain.{caseB}
use Rattle.models.specs.declared.{Refusal.Refusal}
use Rattle.rows.specs.Table.{empty_row}
use Rattle.rows.specs.Store.{Store}
use Rattle.rows.specs.declared.{Row.Row}
use Rattle.rules.specs.Rules.{report_of}
use Rattle.session.specs.Lent.{store_fits}
use Rattle.session.specs.declared.{InFlight.InFlight, Session.Session}
use Rattle.session.specs.Start.{sized_of}
use Rattle.session.proofs.start.Laws.{sized_stop, sized_on}
use Rattle.reports.specs.Status.{is_shown}
use Rattle.reports.specs.Scan.{shown_from, placed_by, report_from}
use Rattle.reports.specs.declared.{PlacedReport.PlacedReport}

-- a search from `place` on, by what is left there
module _ (f : InFlight) (l : List Row) where
  abbrev shown : ℕ → Bool
  shown i = is_shown f (get_or l i empty_row)

  abbrev in_rest : ℕ → List Row → Option ℕ
  in_rest place rest = cond (any_in (is_shown f) rest) (Some (place + find (is_shown f) rest)) None

  one_on : (place : ℕ) (d rest : List Row) → find (is_shown f) d ≡ suc (find (is_shown f) rest) → length d ≡ suc (length rest)
      → in_rest (place + 1) rest ≡ in_rest place d
  one_on place d rest e h =
      let z : place + find (is_shown f) d ≡ place + 1 + find (is_shown f) rest = omega arith in
      caseB (any_in (is_shown f) rest)
      (λ y. let k = ltb-true (find (is_shown f) rest) (length rest) y in rw (y, lt-ltb (find (is_shown f) d) (length d) (omega arith), z))
      (λ y. let k = ltb-false (find (is_shown f) rest) (length rest) y in rw (y, le-ltb (find (is_shown f) d) (length d) (omega arith)))

  first_of : (k place : ℕ) → length l - place ≡ k → first shown (range_with_len place k) ≡ in_rest place (drop place l)
  first_of zero place e =
      let z = length-drop place l in
      rw (le-ltb (find (is_shown f) (drop place l)) (length (drop place l)) (omega arith))
  first_of (suc k) place e =
      let d = drop place l in
      let rest = drop (place + 1) l in
      let n = length-drop place l in
      let m = length-drop (place + 1) l in
      let more : find (is_shown f) d ≡ cond (shown place) 0 (suc (find (is_shown f) rest)) = ap (find (is_shown f)) (drop_more l place empty_row (omega arith)) in
      caseB (shown place)
      (λ y. let q : find (is_shown f) d ≡ 0 = rw y at more in
      let z : place + find (is_shown f) d ≡ place = omega arith in
      rw (y, lt-ltb (find (is_shown f) d) (length d) (omega arith), z))
      (λ y. let q : find (is_shown f) d ≡ suc (find (is_shown f) rest) = rw y at more in
      rw (y, first_of k (place + 1) (omega arith)) (one_on place d rest q (omega arith)))

  pub first_from : (place n k : ℕ) (r : Option ℕ) → n ≡ length l → n - place ≡ k
      → option_map (λ (i : ℕ). i) r ≡ first (λ i. is_shown f (get_or l i empty_row)) (range_with_len place k) → r ≡ shown_from f place l
  unfolding shown_from
  first_from place n k r e z h = sym (option_map_id r) ∙ h ∙ first_of k place (omega arith)

-- the row that was found is one of the rows
pub scanned_in : (f : InFlight) (place : ℕ) (l : List Row) (g : Option ℕ) (i : ℕ) → g ≡ shown_from f place l → g ≡ Some i → i < length l
unfolding shown_from
scanned_in f place l g i eg e =
    let r = drop place l in
    caseB (any_in (is_shown f) r)
    (λ y. let z : Some (place + find (is_shown f) r) ≡ Some i = sym (rw y at eg) ∙ e in
    let q : i ≡ place + find (is_shown f) r = cc in
    let m = ltb-true (find (is_shown f) r) (length r) y in
    let w = length-drop place l in omega arith)
    (λ y. let z : None ≡ Some i = sym (rw y at eg) ∙ e in let n : ◌≡◌ {A = ℕ} 0 1 = cc in absurd (omega arith))

-- the report of row i, with its place
abbrev pub placed_at : ℕ → List Row → Option PlacedReport
placed_at i rows = Some (record { place = i; report = report_of (get_or rows i empty_row) })

-- 3, and the report
module _ (place : ℕ) (s : Session) (store : Store) (v : Result ⊤ Refusal) (ev : v ≡ sized_of (store_fits s.size store)) where
  pub from_unfit : (r : Refusal) → v ≡ Err r → Err r ≡ report_from place s store
  unfolding report_from
  from_unfit r t = sized_stop (Result (Option PlacedReport) Refusal) Err _ _ _ v ev r t refl

  -- the closure Q says of a row's place what its report is
  module _ (t : v ≡ Ok tt) (g : Option ℕ) (eg : g ≡ shown_from s.in_flight place store.rows) where
    pub from_on : (x : Option PlacedReport) (Q : ℕ → PlacedReport → Type 0) → MatchOption g (x ≡ None) (λ i. IsSomeAnd x (Q i))
        → ((i : ℕ) (r : PlacedReport) → g ≡ Some i → Q i r → Some r ≡ placed_at i store.rows) → Ok x ≡ report_from place s store
    unfolding report_from placed_by
    from_on x Q h k = sized_on (Result (Option PlacedReport) Refusal) Err _ _ _ v ev t (by g x h k ∙ rw eg)
      where
        by : (f : Option ℕ) (o : Option PlacedReport) → MatchOption f (o ≡ None) (λ i. IsSomeAnd o (Q i))
            → ((i : ℕ) (r : PlacedReport) → f ≡ Some i → Q i r → Some r ≡ placed_at i store.rows) → Ok o ≡ placed_by f store.rows
        by None o h k = ap Ok h
        by (Some i) (Some r) h k = ap Ok (k i r refl h)
        by (Some i) None h k = absurd h
