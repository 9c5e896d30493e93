-- Every way out of an admission, for whatever is claimed of it, and what an admitted submission has room for. Assumes nothing.
use Rattle.std.specs.Prelude.{Option, Some, None, Result, Ok, Err, ⊤}
use Prim.Native.Nat.{ℕ, ◌≤◌}
use mathlib.Core.Bool.{Bool, true}
use mathlib.Core.List.{List}
use mathlib.Core.Path.{◌≡◌, refl, sym, ap, subst, ◌∙◌}
use native.Mathlib.Omega.{arith}
use borrow.Author.Tests.{not-false}
use lib.ListN.{length}
use Rattle.chain.proofs.Chain.{if_by, if_all}
use Rattle.models.specs.Refusals.{refusal_of}
use Rattle.models.specs.Said.{Tabled, refused, verdict_said}
use Rattle.models.specs.declared.{ControlPlan.ControlPlan, Refusal.Refusal, RequestMetadata.RequestMetadata, RequestSpec.RequestSpec}
use Rattle.models.proofs.Said.{tabled_own, tabled_in}
use Rattle.rows.specs.Store.{store_of}
use Rattle.rows.specs.Table.{read_rows}
use Rattle.bus.specs.Layout.{bus_words}
use Rattle.bus.specs.Tables.{bus_of}
use Rattle.checks.specs.Packets.{packets_checked}
use Rattle.checks.specs.Plan.{plan_facts, plan_checked, plan_of}
use Rattle.checks.specs.Plan as plan
use Rattle.checks.specs.Prepare.{spec_facts, spec_checked, metadata_of}
use Rattle.checks.specs.Prepare as prepare
use Rattle.checks.specs.Said.{packets_numbers, prepare_numbers, plan_numbers}
use Rattle.checks.proofs.Passed.{ready_fits, planned_fits}
use Rattle.checks.proofs.Said.{packets_tabled, spec_tabled, plan_tabled}
use Rattle.session.specs.Lent.{Lent, lent_fits, memory, lent}
use Rattle.session.specs.Sizes.{place_of, lent_sizes}
use Rattle.session.specs.Start.{guarded}
use Rattle.session.specs.declared.{Session.Session}
use Rattle.session.proofs.sizes.Laws.{lent_memory, lent_bus, place_in_lem}
use Rattle.submissions.specs.Admit.{place_in, admit_prepared, admit_room, admit_packets, admit_of, admit_planned, admit_plan_room, admit_plan_of}
use Rattle.submissions.specs.Begin.{room_in, draft, Placed}
use Rattle.submissions.specs.Said.{admit_numbers, admit_plan_numbers}
use Rattle.submissions.proofs.begin.Laws.{room_in_lem}
use Rattle.submissions.specs.declared.{admit.Admitted.Admitted, admit.AdmittedPlan.AdmittedPlan}

by_found : {A : Type 0} (f : Option ℕ) → (f ≡ None → A) → ((i : ℕ) → f ≡ Some i → A) → A
by_found None none go = none refl
by_found (Some i) none go = go i refl

by_verdict : {A : Type 0} (ns : List ℕ) (v : Result ⊤ Refusal) → Tabled ns (verdict_said v) → ((r : Refusal) → v ≡ Err r → Tabled ns (refused r) → A) → (v ≡ (Ok tt) → A) → A
by_verdict ns (Err r) h stop go = stop r refl h
by_verdict ns (Ok tt) h stop go = go refl

-- ---- a request
module _ (q : RequestSpec) (n : ℕ) (s : Session) (l : Lent) (P : Result Admitted Refusal → Type 0) (no : (r : Refusal) → Tabled admit_numbers (refused r) → P (Err r))
    (go : lent_fits s.size l ≡ true → (i : ℕ) → room_in l.memory.store.rows ≡ Some i
    → (q.length ≤ s.size.row_bytes) × (n ≤ s.size.row_bytes) → P (Ok (record { place = (place_of s.size i); metadata = (metadata_of q) }))) where
  by_prepared : lent_fits s.size l ≡ true → (i : ℕ) → room_in l.memory.store.rows ≡ Some i → P (admit_prepared (place_of s.size i) q n s)
  unfolding prepare.prepared prepare.prepared_if admit_prepared
  by_prepared fits i room =
      by_verdict prepare_numbers (spec_checked (spec_facts q n s.size.row_bytes)) (spec_tabled _)
      (λ r e h. rw (e, admit_prepared) (no r (tabled_in admit_numbers prepare_numbers refl _ h)))
      (λ e.
      let z : prepare.prepared q n s.size.row_bytes ≡ Ok (metadata_of q) = ap (λ (v : Result ⊤ Refusal). prepare.prepared_if v q) e in
      rw (e, admit_prepared) (go fits i room (ready_fits q n s.size.row_bytes (metadata_of q) z)))

  by_room : lent_fits s.size l ≡ true → P (admit_room q n s l.memory.store.rows)
  unfolding admit_room place_in
  by_room fits =
      by_found (room_in l.memory.store.rows) (λ e. rw (e, place_in, admit_room) (no (refusal_of 5) (tabled_own _ 5 refl)))
      (λ i e. rw (e, place_in, admit_room) (by_prepared fits i e))

  pub admit_all : (packets : List ℕ) (given : Bool) → P (admit_of packets given q n s l)
  unfolding admit_of guarded admit_packets
  admit_all packets given =
      if_all P _ _ _ (no (refusal_of 1) (tabled_own _ 1 refl)) (if_by P _ _ _ (λ e. no (refusal_of 3) (tabled_own _ 3 refl))
      (λ fits. by_verdict packets_numbers (packets_checked given packets q.transfer_type q.length) (packets_tabled given packets _ _)
      (λ r e h. rw (e, admit_packets) (no r (tabled_in admit_numbers packets_numbers refl _ h))) (λ e. rw (e, admit_packets) (by_room (not-false _ fits)))))

-- ---- a plan
module _ (q : ControlPlan) (n : ℕ) (s : Session) (l : Lent) (P : Result AdmittedPlan Refusal → Type 0) (no : (r : Refusal) → Tabled admit_plan_numbers (refused r) → P (Err r))
    (go : lent_fits s.size l ≡ true → (i : ℕ) → room_in l.memory.store.rows ≡ Some i
    → ((plan_of q).metadata.requested_length ≤ s.size.row_bytes) × (n ≤ s.size.row_bytes) → P (Ok (record { place = (place_of s.size i); plan = (plan_of q) }))) where
  by_planned : lent_fits s.size l ≡ true → (i : ℕ) → room_in l.memory.store.rows ≡ Some i → P (admit_planned (place_of s.size i) q n s)
  unfolding plan.planned plan.planned_if admit_planned
  by_planned fits i room =
      by_verdict plan_numbers (plan_checked (plan_facts q n s.size.row_bytes)) (plan_tabled _)
      (λ r e h. rw (e, admit_planned) (no r (tabled_in admit_plan_numbers plan_numbers refl _ h)))
      (λ e.
      let z : plan.planned q n s.size.row_bytes ≡ Ok (plan_of q) = ap (λ (v : Result ⊤ Refusal). plan.planned_if v q) e in
      rw (e, admit_planned) (go fits i room (planned_fits q n s.size.row_bytes (plan_of q) z)))

  pub admit_plan_all : P (admit_plan_of q n s l)
  unfolding admit_plan_of guarded admit_plan_room place_in
  admit_plan_all =
      if_all P _ _ _ (no (refusal_of 1) (tabled_own _ 1 refl)) (if_by P _ _ _ (λ e. no (refusal_of 3) (tabled_own _ 3 refl))
      (λ fits. by_found (room_in l.memory.store.rows) (λ e. rw (e, place_in, admit_plan_room) (no (refusal_of 5) (tabled_own _ 5 refl)))
      (λ i e. rw (e, place_in, admit_plan_room) (by_planned (not-false _ fits) i e))))

-- ---- the room of what was admitted
module _ (s : Session) (bytes bus rows area : List ℕ) where
  abbrev whole : Lent
  whole = lent (bus_of bus) (memory (store_of rows) area)

  -- a row of the store, and a request of at most a row's bytes
  placed_at : lent_sizes s.size (length rows) (length area) (length bus) ≡ true → (i : ℕ) → room_in (read_rows rows) ≡ Some i → (m : RequestMetadata)
      → (m.requested_length ≤ s.size.row_bytes) × (length bytes ≤ s.size.row_bytes) → Placed (draft (place_of s.size i) m bytes) bus rows area
  placed_at fits i room m k =
      let lt = room_in_lem (read_rows rows) _ i refl room in
      let fit = place_in_lem s.size rows (length area) (lent_memory s.size (length rows) (length area) (length bus) fits) i lt in
      record { tables = lent_bus s.size (length rows) (length area) (length bus) fits; row = lt; buffer = omega arith; payload = omega arith }

  abbrev Holds : Result Admitted Refusal → Type 0
  Holds (Err r) = Unit {0}
  Holds (Ok a) = Placed (draft a.place a.metadata bytes) bus rows area

  abbrev PlanHolds : Result AdmittedPlan Refusal → Type 0
  PlanHolds (Err r) = Unit {0}
  PlanHolds (Ok a) = Placed (draft a.place a.plan.metadata bytes) bus rows area

  pub admitted_placed : (packets : List ℕ) (given : Bool) (q : RequestSpec) (a : Result Admitted Refusal) (x : Admitted)
      → a ≡ admit_of packets given q (length bytes) s whole → a ≡ Ok x → Placed (draft x.place x.metadata bytes) bus rows area
  unfolding store_of bus_of
  admitted_placed packets given q a x ea e =
      subst Holds (sym ea ∙ e) (admit_all q (length bytes) s whole Holds (λ r h. tt) (λ fits i room k. placed_at fits i room (metadata_of q) k) packets given)

  pub plan_placed : (q : ControlPlan) (a : Result AdmittedPlan Refusal) (x : AdmittedPlan)
      → a ≡ admit_plan_of q (length bytes) s whole → a ≡ Ok x → Placed (draft x.place x.plan.metadata bytes) bus rows area
  unfolding store_of bus_of
  plan_placed q a x ea e =
      subst PlanHolds (sym ea ∙ e) (admit_plan_all q (length bytes) s whole PlanHolds (λ r h. tt) (λ fits i room k. placed_at fits i room (plan_of q).metadata k))

  pub admitted_tables : (packets : List ℕ) (given : Bool) (q : RequestSpec) (a : Result Admitted Refusal) (x : Admitted)
      → a ≡ admit_of packets given q (length bytes) s whole → a ≡ Ok x → length bus ≡ bus_words
  admitted_tables packets given q a x ea e = (admitted_placed packets given q a x ea e).tables

  pub plan_tables : (q : ControlPlan) (a : Result AdmittedPlan Refusal) (x : AdmittedPlan)
      → a ≡ admit_plan_of q (length bytes) s whole → a ≡ Ok x → length bus ≡ bus_words
  plan_tables q a x ea e = (plan_placed q a x ea e).tables
