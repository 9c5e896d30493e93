-- One law for each way out of an admission: its premises are the facts in hand there. Assumes nothing.
use Rattle.std.specs.Prelude.{Option, Some, None, Result, Ok, Err, ⊤}
use Prim.Native.Nat.{ℕ, ◌*◌}
use mathlib.Core.Bool.{Bool, true}
use mathlib.Core.List.{List}
use mathlib.Core.Path.{◌≡◌, refl, ◌∙◌}
use native.Mathlib.Omega.{arith}
use lib.ListN.{length}
use mir.Syntax.{w64}
use mir.Val.{Fits}
use Rattle.models.specs.Refusals.{refusal_of}
use Rattle.models.specs.declared.{ControlPlan.ControlPlan, Refusal.Refusal, RequestMetadata.RequestMetadata, RequestSpec.RequestSpec}
use Rattle.rows.specs.Table.{read_rows}
use Rattle.rows.specs.declared.{Row.Row}
use Rattle.checks.specs.Packets.{packets_checked}
use Rattle.checks.specs.Plan.{planned}
use Rattle.checks.specs.Prepare.{prepared}
use Rattle.checks.specs.declared.{plan.ValidatedControlPlan.ValidatedControlPlan}
use Rattle.session.specs.Lent.{Lent, lent_fits}
use Rattle.session.specs.Sizes.{memory_sizes, lent_sizes}
use Rattle.session.specs.Start.{ready_of}
use Rattle.session.specs.declared.{Session.Session, Size.Size, sizes.Place.Place}
use Rattle.session.proofs.sizes.Laws.{lent_memory, place_small}
use Rattle.session.proofs.start.Laws.{ready_sizes, guard_stop, guard_on}
use Rattle.submissions.specs.Admit.{place_in, admit_prepared, admit_room, admit_packets, admit_of, admit_planned, admit_plan_room, admit_plan_of}
use Rattle.submissions.specs.Begin.{room_in}
use Rattle.submissions.proofs.begin.Laws.{room_in_lem}
use Rattle.submissions.specs.declared.{admit.Admitted.Admitted, admit.AdmittedPlan.AdmittedPlan}

-- what the sizes leave to the row and its part of the area
pub ready_memory : (s : Session) (v : Result ⊤ Refusal) (words area bus : ℕ) → v ≡ ready_of s (lent_sizes s.size words area bus) → v ≡ (Ok tt)
    → memory_sizes s.size words area ≡ true
ready_memory s v words area bus ev e = lent_memory s.size words area bus (ready_sizes s _ v ev e)

-- 5, and where the row's bytes start
pub room_fits : (z : Size) (l : List ℕ) (area : ℕ) → memory_sizes z (length l) area ≡ true → (f : Option ℕ) (i : ℕ) → f ≡ room_in (read_rows l) → f ≡ Some i
    → Fits w64 (i * z.row_bytes)
room_fits z l area e f i ef fi = omega (arith, place_small z l area e i (room_in_lem (read_rows l) f i ef fi))

module _ (s : Session) (rows : List Row) (f : Option ℕ) (ef : f ≡ room_in rows) where
  pub place_none : (r : Refusal) → f ≡ None → r ≡ refusal_of 5 → Err r ≡ place_in s rows
  unfolding place_in
  place_none r e er = rw (← ef, e, er, place_in)

  pub place_at : (i : ℕ) → f ≡ Some i → Ok (record { row = i; start = i * s.size.row_bytes }) ≡ place_in s rows
  unfolding place_in
  place_at i e = rw (← ef, e, place_in)

-- ---- a request
module _ (q : RequestSpec) (n : ℕ) (s : Session) where
  -- 6 to 17
  module _ (p : Place) (a : Result RequestMetadata Refusal) (ea : a ≡ prepared q n s.size.row_bytes) where
    pub prepared_no : (r : Refusal) → a ≡ Err r → Err r ≡ admit_prepared p q n s
    unfolding admit_prepared
    prepared_no r e = rw (← ea, e, admit_prepared)

    pub prepared_ready : (m : RequestMetadata) → a ≡ Ok m → Ok (record { place = p; metadata = m }) ≡ admit_prepared p q n s
    unfolding admit_prepared
    prepared_ready m e = rw (← ea, e, admit_prepared)

  module _ (rows : List Row) where
    -- 5
    module _ (v : Result Place Refusal) (ev : v ≡ place_in s rows) where
      pub room_no : (r : Refusal) → v ≡ Err r → Err r ≡ admit_room q n s rows
      unfolding admit_room
      room_no r e = rw (← ev, e, admit_room)

      pub room_on : (p : Place) (x : Result Admitted Refusal) → v ≡ Ok p → x ≡ admit_prepared p q n s → x ≡ admit_room q n s rows
      unfolding admit_room
      room_on p x e ex = ex ∙ rw (← ev, e, admit_room)

    -- 4
    module _ (packets : List ℕ) (given : Bool) (v : Result ⊤ Refusal) (ev : v ≡ packets_checked given packets q.transfer_type q.length) where
      pub packets_no : (r : Refusal) → v ≡ Err r → Err r ≡ admit_packets packets given q n s rows
      unfolding admit_packets
      packets_no r e = rw (← ev, e, admit_packets)

      pub packets_on : (x : Result Admitted Refusal) → v ≡ (Ok tt) → x ≡ admit_room q n s rows → x ≡ admit_packets packets given q n s rows
      unfolding admit_packets
      packets_on x e ex = ex ∙ rw (← ev, e, admit_packets)

  -- 1, 3
  module _ (packets : List ℕ) (given : Bool) (l : Lent) (v : Result ⊤ Refusal) (ev : v ≡ ready_of s (lent_fits s.size l)) where
    pub admit_no : (r : Refusal) → v ≡ Err r → Err r ≡ admit_of packets given q n s l
    unfolding admit_of
    admit_no r e = guard_stop (Result Admitted Refusal) Err _ s _ _ v ev r e refl

    pub admit_on : (x : Result Admitted Refusal) → v ≡ (Ok tt) → x ≡ admit_packets packets given q n s l.memory.store.rows → x ≡ admit_of packets given q n s l
    unfolding admit_of
    admit_on x e ex = guard_on (Result Admitted Refusal) _ _ s _ x v ev e ex

-- ---- a plan
module _ (q : ControlPlan) (n : ℕ) (s : Session) where
  -- 18 to 25 with 6 and 7
  module _ (p : Place) (a : Result ValidatedControlPlan Refusal) (ea : a ≡ planned q n s.size.row_bytes) where
    pub planned_no : (r : Refusal) → a ≡ Err r → Err r ≡ admit_planned p q n s
    unfolding admit_planned
    planned_no r e = rw (← ea, e, admit_planned)

    pub planned_ready : (v : ValidatedControlPlan) → a ≡ Ok v → Ok (record { place = p; plan = v }) ≡ admit_planned p q n s
    unfolding admit_planned
    planned_ready v e = rw (← ea, e, admit_planned)

  -- 5
  module _ (rows : List Row) (v : Result Place Refusal) (ev : v ≡ place_in s rows) where
    pub plan_room_no : (r : Refusal) → v ≡ Err r → Err r ≡ admit_plan_room q n s rows
    unfolding admit_plan_room
    plan_room_no r e = rw (← ev, e, admit_plan_room)

    pub plan_room_on : (p : Place) (x : Result AdmittedPlan Refusal) → v ≡ Ok p → x ≡ admit_planned p q n s → x ≡ admit_plan_room q n s rows
    unfolding admit_plan_room
    plan_room_on p x e ex = ex ∙ rw (← ev, e, admit_plan_room)

  -- 1, 3
  module _ (l : Lent) (v : Result ⊤ Refusal) (ev : v ≡ ready_of s (lent_fits s.size l)) where
    pub plan_no : (r : Refusal) → v ≡ Err r → Err r ≡ admit_plan_of q n s l
    unfolding admit_plan_of
    plan_no r e = guard_stop (Result AdmittedPlan Refusal) Err _ s _ _ v ev r e refl

    pub plan_on : (x : Result AdmittedPlan Refusal) → v ≡ (Ok tt) → x ≡ admit_plan_room q n s l.memory.store.rows → x ≡ admit_plan_of q n s l
    unfolding admit_plan_of
    plan_on x e ex = guard_on (Result AdmittedPlan Refusal) _ _ s _ x v ev e ex
