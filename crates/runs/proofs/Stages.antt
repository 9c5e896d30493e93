-- Every way out of a submission, for whatever is claimed of it. Assumes nothing.
use Rattle.std.specs.Prelude.{Option, Some, None, Result, Ok, Err, ⊤}
use Prim.Native.Nat.{ℕ, ◌+◌, ◌<◌, ◌≤◌}
use mathlib.Core.Bool.{Bool, true, false, not}
use mathlib.Core.List.{List}
use mathlib.Core.Path.{◌≡◌, refl}
use native.Mathlib.Omega.{arith}
use borrow.Author.Tests.{leb-false}
use lib.ListN.{length}
use Rattle.chain.specs.After.{After, after}
use Rattle.chain.specs.Chain.{◌if◌else◌}
use Rattle.chain.specs.Lists.{count, found_in, is_among}
use Rattle.chain.proofs.Chain.{if_by}
use Rattle.models.specs.Refusals.{refusal_of, pass}
use Rattle.models.specs.Requests.{same_device}
use Rattle.models.specs.Said.{Tabled, refused}
use Rattle.models.proofs.Said.{every, tabled_number}
use Rattle.models.specs.declared.{ControlPlan.ControlPlan, DeviceId.DeviceId, DeviceSnapshot.DeviceSnapshot, OperationError.OperationError, Ports.Ports, Refusal.Refusal, RequestMetadata.RequestMetadata}
use Rattle.rows.specs.Table.{is_held, row_in}
use Rattle.rows.specs.declared.{Row.Row}
use Rattle.rules.specs.Rules.{spend_sequence}
use Rattle.ledger.specs.Search.{is_free}
use Rattle.ledger.proofs.Found.{free_row}
use Rattle.bus.specs.Tables.{Bus, device_at, mark_at}
use Rattle.checks.specs.Plan.{plan_of}
use Rattle.checks.specs.Prepare.{metadata_of}
use Rattle.targets.specs.Target.{refused_device, known_by, known_device, check_device_by, check_device, check_target_by, check_target}
use Rattle.targets.specs.declared.{Readings.Readings}
use Rattle.session.specs.Session.{is_initialized}
use Rattle.session.specs.Lent.{Memory, Lent, lent}
use Rattle.session.specs.Sizes.{place_of}
use Rattle.session.specs.declared.{Called.Called, Session.Session}
use Rattle.submissions.specs.Begin.{room_in, Draft, draft, begun, begin_of, with_bus, target_by, target_of}
use Rattle.submissions.specs.Submit.{Request, submitted_to, submit_target, submit_by, submit_of}
use Rattle.submissions.specs.Plan.{planned_to, plan_target, submit_plan_by, submit_plan_of}
use Rattle.submissions.specs.Said.{admit_numbers, admit_plan_numbers, early_numbers}
use Rattle.submissions.proofs.Admission.{admit_all, admit_plan_all}
use Rattle.session.specs.Called.{call_refused}
use Rattle.submissions.specs.declared.{PlanSubmission.PlanSubmission, Submission.Submission, begin.Start.Start}

-- a refusal before the device
early : (ns : List ℕ) → every (λ n. is_among n early_numbers) ns ≡ true → (r : Refusal) → Tabled ns (refused r) → is_among r.number early_numbers ≡ true
early ns a r h = tabled_number (λ n. is_among n early_numbers) ns a r h

-- 28: a request is taken only while the controller is Initialized
known_no : (o : Option DeviceSnapshot) (id : DeviceId) → (r : Refusal) × (known_by o false id ≡ Err r)
unfolding known_by ◌if◌else◌
known_no None id = (_, refl)
known_no (Some d) id = go (same_device d.id id)
  where
    go : (b : Bool) → (r : Refusal) × ((refused_device 27 if not b else refused_device 28 if true else Ok d) ≡ Err r)
    go true = (_, refl)
    go false = (_, refl)

device_no : (id : DeviceId) (b : Bus) → (r : Refusal) × (known_device false id b ≡ Err r)
unfolding known_device ◌if◌else◌
device_no id b = go (mark_at b id.slot)
  where
    go : (t : Bool) → (r : Refusal) × ((refused_device 26 if t else known_by (device_at b id.slot) false id) ≡ Err r)
    go true = (_, refl)
    go false = known_no (device_at b id.slot) id

refused_no : (r : Refusal) → Err r ≡ pass → ⊥
refused_no r e = let z : ◌≡◌ {A = ℕ} 0 1 = cc in absurd (omega arith)

target_ready : (ready : Bool) (ports : Option Ports) (m : RequestMetadata) (x : Readings) (b : Bus) → (check_target ready ports m x b).result ≡ (Ok tt) → ready ≡ true
unfolding check_target check_target_by check_device check_device_by
target_ready true ports m x b = λ e. refl
target_ready false ports m x b =
    let z = device_no m.device b in
    let q = z.1 in rw q λ e. absurd (refused_no z.0 e)

-- 39
pub spend_all : (d : Draft) (s : Session) (m : Memory) (P : After (Called Start) Memory → Type 0) → P (after (call_refused s (refusal_of 39)) m)
    → ((next : ℕ) → s.next_sequence < next → P (begun next d s m)) → P (begin_of d s m)
unfolding begin_of spend_sequence
spend_all d s m P over go =
    if_by
    (λ (x : Result ℕ Refusal).
    P (elim x [
      | Err r ↦ after (call_refused s r) m
      | Ok next ↦ begun next d s m
    ]))
    _ _ _ (λ y. over) (λ y. go (s.next_sequence + 1) (omega arith))

-- 26 to 37, 58, 38
module _ (d : Draft) (s : Session) (m : Memory) (P : After (Called Start) Lent → Type 0)
    (no : (x : Refusal) (b : Bus) → P (after (call_refused s x) (lent b m)))
    (go : is_initialized s.state ≡ true → (next : ℕ) → s.next_sequence < next → (b : Bus) → P (with_bus b (begun next d s m))) where
  pub target_all : (x : Readings) (b : Bus) → P (target_of d x s (lent b m))
  unfolding target_of target_by
  target_all x b = by_verdict _ refl
    where
      seen : After (Result ⊤ Refusal) Bus
      seen = check_target (is_initialized s.state) s.ports d.metadata x b

      by_verdict : (v : Result ⊤ Refusal) → seen.result ≡ v → P (target_by v d s (lent seen.lent m))
      by_verdict (Err r) e = no r _
      by_verdict (Ok tt) e =
          let ready = target_ready (is_initialized s.state) s.ports d.metadata x b e in
          spend_all d s m (λ o. P (with_bus seen.lent o)) (no (refusal_of 39) _) (λ next later. go ready next later _)

-- 5: a row that is free, and fewer than 128 held
pub record Room (rows : List Row) (i : ℕ) : Type 0 where
  pub below : i < length rows
  pub free : (row_in rows i).used ≡ false
  pub few : count is_held rows < 128

pub room_told : (rows : List Row) (i : ℕ) → room_in rows ≡ Some i → Room rows i
unfolding room_in
room_told rows i =
    if_by (λ (f : Option ℕ). f ≡ Some i → Room rows i) _ _ _ (λ y e. let z : ◌≡◌ {A = ℕ} 0 1 = cc in absurd (omega arith))
    (λ y e. let p = free_row rows (found_in is_free rows) i refl e in record { below = p.0; free = p.1; few = leb-false 128 (count is_held rows) y })

-- a request
module _ (q : Request) (s : Session) (l : Lent) (P : After (Called Submission) Lent → Type 0) (no : (x : Refusal) → is_among x.number early_numbers ≡ true → P (after (call_refused s x) l))
    (go : (i : ℕ) → Room l.memory.store.rows i → (q.spec.length ≤ s.size.row_bytes) × (length q.bytes ≤ s.size.row_bytes)
    → P (submitted_to (target_of (draft (place_of s.size i) (metadata_of q.spec) q.bytes) q.readings s l) (metadata_of q.spec) q.given)) where
  pub submit_all : (packets : List ℕ) → P (submit_of packets q s l)
  unfolding submit_of submit_by submit_target
  submit_all packets =
      admit_all q.spec (length q.bytes) s l (λ a. P (submit_by a q s l)) (λ r h. no r (early admit_numbers refl r h))
      (λ fits i room k. go i (room_told _ i room) k) packets q.given

-- a plan
module _ (q : ControlPlan) (bytes : List ℕ) (first : Result ℕ OperationError) (s : Session) (l : Lent) (P : After (Called PlanSubmission) Lent → Type 0)
    (no : (x : Refusal) → is_among x.number early_numbers ≡ true → P (after (call_refused s x) l))
    (go : (i : ℕ) → Room l.memory.store.rows i → ((plan_of q).metadata.requested_length ≤ s.size.row_bytes) × (length bytes ≤ s.size.row_bytes)
    → P (planned_to (target_of (draft (place_of s.size i) (plan_of q).metadata bytes) (record { first = first; second = first }) s l) (plan_of q))) where
  pub plan_all : P (submit_plan_of q bytes first s l)
  unfolding submit_plan_of submit_plan_by plan_target
  plan_all =
      admit_plan_all q (length bytes) s l (λ a. P (submit_plan_by a bytes first s l)) (λ r h. no r (early admit_plan_numbers refl r h))
      (λ fits i room k. go i (room_told _ i room) k)
