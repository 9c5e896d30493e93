-- The admission of a submission: every check before its device (document 01, the places start, packets, capacity, prepare and plan of its
-- table). Both the submission and the question which port reading it lacks begin with it. Assumes nothing.
use Rattle.std.specs.Prelude.{ℕ, Bool, List, Some, None, Result, Ok, Err}
use Rattle.models.specs.Refusals.{refusal_of}
use Rattle.models.specs.declared.{ControlPlan.ControlPlan, Refusal.Refusal, RequestSpec.RequestSpec}
use Rattle.rows.specs.declared.{Row.Row}
use Rattle.checks.specs.Packets.{packets_checked}
use Rattle.checks.specs.Plan.{planned}
use Rattle.checks.specs.Prepare.{prepared}
use Rattle.session.specs.Lent.{Lent, lent_fits}
use Rattle.session.specs.Sizes.{place_of}
use Rattle.session.specs.Start.{guarded}
use Rattle.session.specs.declared.{Session.Session, sizes.Place.Place}
use Rattle.submissions.specs.Begin.{room_in}
use Rattle.submissions.specs.declared.{admit.Admitted.Admitted, admit.AdmittedPlan.AdmittedPlan}

-- refused by 5 if no row is free or 128 are held
unfoldable pub place_in : Session → List Row → Result Place Refusal
place_in s rows =
    elim (room_in rows) [
      | None ↦ Err (refusal_of 5)
      | Some i ↦ Ok (place_of s.size i)
    ]

-- ---- a request with n bytes of data

-- 6 to 17
unfoldable pub admit_prepared : Place → RequestSpec → ℕ → Session → Result Admitted Refusal
admit_prepared p q n s =
    elim (prepared q n s.size.row_bytes) [
      | Err r ↦ Err r
      | Ok m ↦ Ok (record { place = p; metadata = m })
    ]

-- 5; then 6 to 17
unfoldable pub admit_room : RequestSpec → ℕ → Session → List Row → Result Admitted Refusal
admit_room q n s rows =
    elim (place_in s rows) [
      | Err r ↦ Err r
      | Ok p ↦ admit_prepared p q n s
    ]

-- 4; then 5
unfoldable pub admit_packets : List ℕ → Bool → RequestSpec → ℕ → Session → List Row → Result Admitted Refusal
admit_packets packets given q n s rows =
    elim (packets_checked given packets q.transfer_type q.length) [
      | Err r ↦ Err r
      | (Ok tt) ↦ admit_room q n s rows
    ]

-- 1, 3; then 4
unfoldable pub admit_of : List ℕ → Bool → RequestSpec → ℕ → Session → Lent → Result Admitted Refusal
admit_of packets given q n s l = guarded s (lent_fits s.size l) Err (admit_packets packets given q n s l.memory.store.rows)

-- ---- a control plan with n bytes of data

-- 18 to 20, 6, 7, 21 to 25
unfoldable pub admit_planned : Place → ControlPlan → ℕ → Session → Result AdmittedPlan Refusal
admit_planned p q n s =
    elim (planned q n s.size.row_bytes) [
      | Err r ↦ Err r
      | Ok v ↦ Ok (record { place = p; plan = v })
    ]

-- 5; then 18
unfoldable pub admit_plan_room : ControlPlan → ℕ → Session → List Row → Result AdmittedPlan Refusal
admit_plan_room q n s rows =
    elim (place_in s rows) [
      | Err r ↦ Err r
      | Ok p ↦ admit_planned p q n s
    ]

-- 1, 3; then 5
unfoldable pub admit_plan_of : ControlPlan → ℕ → Session → Lent → Result AdmittedPlan Refusal
admit_plan_of q n s l = guarded s (lent_fits s.size l) Err (admit_plan_room q n s l.memory.store.rows)
