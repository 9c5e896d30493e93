-- What reports, tallies and changes refuse is of the table. Assumes nothing.
use Rattle.std.specs.Prelude.{Option, Some, None, Result, Ok, Err}
use Prim.Native.Nat.{ℕ}
use mathlib.Core.Bool.{true}
use mathlib.Core.List.{List, ◌∷◌}
use mathlib.Core.Path.{◌≡◌, refl}
use Rattle.chain.specs.After.{After, after}
use Rattle.chain.specs.Lists.{is_among, all_in}
use Rattle.chain.proofs.Chain.{both, if_all}
use Rattle.models.specs.Said.{Tabled}
use Rattle.models.specs.declared.{Refusal.Refusal, RequestId.RequestId, RequestReport.RequestReport}
use Rattle.models.proofs.Said.{tabled_says, tabled_own, tabled_in, said_of}
use Rattle.rows.specs.Store.{Store}
use Rattle.rows.specs.declared.{Row.Row}
use Rattle.rules.specs.declared.{Change.Change}
use Rattle.ledger.specs.Apply.{apply_of}
use Rattle.ledger.specs.Said.{applied_said, apply_numbers}
use Rattle.ledger.proofs.Said.{apply_tabled}
use Rattle.session.specs.declared.{Called.Called, Session.Session}
use Rattle.session.proofs.Said.{guarded_all}
use Rattle.reports.specs.Change.{reported_by, change_of}
use Rattle.reports.specs.Said.{report_said, next_said, tally_said, part_said, status_numbers, tally_numbers}
use Rattle.reports.specs.Status.{shown_at, status_by, status_of, next_of, shown_count, part_by, completed_part, held_count_of, tally_of, held_bytes_of}
use Rattle.reports.specs.declared.{Part.Part}

-- ---- a report by id
abbrev Shows : Result RequestReport Refusal → Type 0
Shows x = Tabled status_numbers (report_said x)

status_by_lem : (f : Option ℕ) (rows : List Row) → Shows (status_by f rows)
unfolding status_by
status_by_lem None rows = tabled_own _ 40 refl
status_by_lem (Some i) rows = tabled_says _ _

module _ (id : RequestId) (s : Session) (store : Store) where
  pub status_tabled : Tabled status_numbers (report_said (status_of id s store))
  unfolding status_of
  status_tabled = if_all Shows _ _ _ (tabled_own _ 3 refl) (status_by_lem (shown_at s.in_flight id store.rows) store.rows)

  pub status_said : (x : Result RequestReport Refusal) → x ≡ status_of id s store → (x ≡ status_of id s store) × Tabled status_numbers (report_said x)
  status_said x e = said_of Shows _ _ e status_tabled

-- ---- the next one
abbrev Nexts : Result (Option RequestReport) Refusal → Type 0
Nexts x = Tabled tally_numbers (next_said x)

best_tabled : (best : Option RequestReport) → Nexts (Ok best)
best_tabled None = tabled_says _ _
best_tabled (Some x) = tabled_says _ _

module _ (o : Option RequestId) (s : Session) (store : Store) where
  pub next_tabled : Tabled tally_numbers (next_said (next_of o s store))
  unfolding next_of
  next_tabled = if_all Nexts _ _ _ (tabled_own _ 3 refl) (best_tabled _)

  pub next_said_lem : (x : Result (Option RequestReport) Refusal) → x ≡ next_of o s store → (x ≡ next_of o s store) × Tabled tally_numbers (next_said x)
  next_said_lem x e = said_of Nexts _ _ e next_tabled

-- ---- the tallies
abbrev Tallies : Result ℕ Refusal → Type 0
Tallies x = Tabled tally_numbers (tally_said x)

abbrev Counts : Result ℕ Refusal → Type 0
Counts x = Tallies (tally_of x)

module _ (s : Session) (store : Store) where
  pub shown_tabled : Tabled tally_numbers (tally_said (shown_count s store))
  unfolding shown_count
  shown_tabled = if_all Tallies _ _ _ (tabled_own _ 3 refl) (tabled_says _ _)

  pub held_count_tabled : Tabled tally_numbers (tally_said (tally_of (held_count_of s store)))
  unfolding held_count_of
  held_count_tabled = if_all Counts _ _ _ (tabled_own _ 3 refl) (tabled_says _ _)

  pub held_bytes_tabled : Tabled tally_numbers (tally_said (held_bytes_of s store))
  unfolding held_bytes_of
  held_bytes_tabled = if_all Tallies _ _ _ (tabled_own _ 3 refl) (tabled_says _ _)

  pub shown_said : (x : Result ℕ Refusal) → x ≡ shown_count s store → (x ≡ shown_count s store) × Tabled tally_numbers (tally_said x)
  shown_said x e = said_of Tallies _ _ e shown_tabled

  pub held_count_said : (x : Result ℕ Refusal) → x ≡ held_count_of s store → (x ≡ held_count_of s store) × Tabled tally_numbers (tally_said (tally_of x))
  held_count_said x e = said_of Counts _ _ e held_count_tabled

  pub held_bytes_said : (x : Result ℕ Refusal) → x ≡ held_bytes_of s store → (x ≡ held_bytes_of s store) × Tabled tally_numbers (tally_said x)
  held_bytes_said x e = said_of Tallies _ _ e held_bytes_tabled

-- ---- completed bytes
abbrev Parts : Result Part Refusal → Type 0
Parts x = Tabled status_numbers (part_said x)

part_by_lem : (f : Option ℕ) (room : ℕ) (rows : List Row) → Parts (part_by f room rows)
unfolding part_by
part_by_lem None room rows = tabled_own _ 40 refl
part_by_lem (Some i) room rows = tabled_says _ _

module _ (id : RequestId) (size : ℕ) (s : Session) (store : Store) where
  pub part_tabled : Tabled status_numbers (part_said (completed_part id size s store))
  unfolding completed_part
  part_tabled = if_all Parts _ _ _ (tabled_own _ 3 refl) (part_by_lem (shown_at s.in_flight id store.rows) s.size.row_bytes store.rows)

  pub part_said_lem : (x : Result Part Refusal) → x ≡ completed_part id size s store → (x ≡ completed_part id size s store) × Tabled status_numbers (part_said x)
  part_said_lem x e = said_of Parts _ _ e part_tabled

-- ---- cancel, its withdrawal, timeout and reclaim: 1, 3, and the ledger's numbers of the change, all in ns
module _ (ns : List ℕ) (c : Change) (all : all_in (1 ∷ 3 ∷ apply_numbers c) ns ≡ true) where
  reported_by_lem : (x : Result RequestReport Refusal) → Tabled ns (applied_said x) → (s : Session) → Tabled ns (report_said (reported_by x s).answer)
  unfolding reported_by
  reported_by_lem (Err r) h s = h
  reported_by_lem (Ok x) h s = h

  module _ (id : RequestId) (s : Session) (store : Store) where
    pub change_tabled : Tabled ns (report_said (change_of id c s store).result.answer)
    unfolding change_of
    change_tabled =
        let one = both (is_among 1 ns) _ all in
        let three = both (is_among 3 ns) _ one.1 in
        guarded_all (λ (o : After (Called RequestReport) Store). Tabled ns (report_said o.result.answer)) s _ _ _ (tabled_own ns 1 one.0) (tabled_own ns 3 three.0)
        (reported_by_lem (apply_of id c store).result (tabled_in ns (apply_numbers c) three.1 _ (apply_tabled c store id)) s)

    pub change_said : (x : Called RequestReport) (left : Store) → after x left ≡ change_of id c s store
        → (after x left ≡ change_of id c s store) × Tabled ns (report_said x.answer)
    change_said x left e = said_of (λ (o : After (Called RequestReport) Store). Tabled ns (report_said o.result.answer)) _ _ e change_tabled
