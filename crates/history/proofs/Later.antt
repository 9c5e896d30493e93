-- A call that places neither the device of a slot nor the row of a port: the device stays, and the port's generation rises, or it stays with the
-- connected bit of the last reading. Assumes nothing.
use Rattle.std.specs.Prelude.{Option, Some, None, Result, Ok, Err, ⊤}
use Prim.Native.Nat.{ℕ, zero, suc, ◌≤◌}
use mathlib.Core.Bool.{Bool, true, false, not, ◌||◌, beq, true≢false}
use mathlib.Core.List.{[], ◌∷◌}
use mathlib.Core.Path.{◌≡◌, refl, sym, ◌∙◌, subst}
use native.Mathlib.Omega.{arith}
use borrow.Author.Tests.{eqb-true, eqb-false, ltb-true, ltb-false, not-false}
use lib.Dec.{eqb, ltb}
use lib.ListN.{length, get_or, set}
use lib.Seq.{get_or-set_same, get_or-set_other, set_out}
use Rattle.chain.specs.After.{After}
use Rattle.chain.specs.Lists.{is_among}
use Rattle.chain.proofs.Chain.{caseB, if_all, if_by, or_false}
use Rattle.models.specs.declared.{DeviceSnapshot.DeviceSnapshot, OperationError.OperationError, PortId.PortId, Ports.Ports, Refusal.Refusal, RequestMetadata.RequestMetadata}
use Rattle.standards.specs.Ports.{port_connected}
use Rattle.bus.specs.Endpoints.{set_endpoints}
use Rattle.bus.specs.Ports.{number_checked, set_port_by, set_port, of_opening, validated, raised_row, observed_by, observed_row, observe_port_by, observe_port, fresh_word, fresh_reading, fresh_port_by, fresh_port}
use Rattle.bus.specs.Tables.{Bus, new_port, port_index, port_at, device_at, put_port, put_device, put_endpoints, put_mark}
use Rattle.bus.specs.declared.{PortRow.PortRow}
use Rattle.targets.specs.Target.{known_device, prepared_device, fresh_device, check_device_by, check_device, check_endpoint, check_target_by, check_target}
use Rattle.targets.specs.declared.{Readings.Readings}
use Rattle.session.specs.Lent.{Lent, lent}
use Rattle.session.specs.Place.{placed, set_device_of, set_port_of, set_endpoints_of, set_reconcile_of}
use Rattle.session.specs.Session.{is_initialized}
use Rattle.session.specs.Start.{guarded}
use Rattle.session.specs.declared.{Session.Session}
use Rattle.submissions.specs.Begin.{Draft, target_by, target_of}
use Rattle.calls.specs.Calls.{Placing, Device, Port, Endpoints, Reconcile, Submit, SubmitPlan, Poll, Recover, ToSubmit, ToPoll, ToRecovery, Call, Open, Place, Move, Begin, Reply, Change, Read}
use Rattle.calls.specs.Step.{World, placed_of, begun_of, replied_of, step_of}
use Rattle.runs.specs.Run.{is_opening}
use Rattle.runs.proofs.Stages.{submit_all, plan_all}
use Rattle.history.specs.Watcher.{places_one, places_at}

-- ---- a port's row and its later self

-- a reading has taken the place of none, or has the same connected bit
abbrev pub SameBit : Option ℕ → Option ℕ → Type 0
SameBit None y = Unit {0}
SameBit (Some old) None = ⊥
SameBit (Some old) (Some raw) = port_connected old ≡ port_connected raw

bit_same : (x : Option ℕ) → SameBit x x
bit_same None = tt
bit_same (Some raw) = refl

bit_on : (x y z : Option ℕ) → SameBit x y → SameBit y z → SameBit x z
bit_on None y z a b = tt
bit_on (Some x) None z a b = absurd a
bit_on (Some x) (Some y) None a b = absurd b
bit_on (Some x) (Some y) (Some z) a b = a ∙ b

-- the generation rises, or it stays and so does the connected bit
pub record Later (r r' : PortRow) : Type 0 where
  pub rises : r.generation ≤ r'.generation
  pub stays : r.generation ≡ r'.generation → SameBit r.reading r'.reading

later_same : (r : PortRow) → Later r r
later_same r = record { rises = omega arith; stays = λ e. bit_same r.reading }

later_on : (r s t : PortRow) → Later r s → Later s t → Later r t
later_on r s t a b = record {
  rises = omega (arith, a.rises, b.rises);
  stays = λ e. bit_on r.reading s.reading t.reading (a.stays (omega (arith, a.rises, b.rises))) (b.stays (omega (arith, a.rises, b.rises)));
}

pub beq_same : (a b : Bool) → beq a b ≡ true → a ≡ b
beq_same true true e = refl
beq_same true false e = sym e
beq_same false true e = e
beq_same false false e = refl

-- 34, or the row that a reading leaves
abbrev Observes : PortRow → Result PortRow Refusal → Type 0
Observes r (Err x) = Unit {0}
Observes r (Ok row) = Later r row

observed_later : (r : PortRow) (raw : ℕ) → Observes r (observed_row r raw)
unfolding observed_row observed_by raised_row
observed_later r raw = go r.reading refl
  where
    kept : (o : Option ℕ) → r.reading ≡ o → SameBit o (Some raw) → Later r (record { generation = r.generation; reading = Some raw })
    kept o e k = record { rises = omega arith; stays = λ q. subst (λ (x : Option ℕ). SameBit x (Some raw)) (sym e) k }

    go : (o : Option ℕ) → r.reading ≡ o → Observes r (observed_by o r raw)
    go None e = kept None e tt
    go (Some old) e =
        if_by (Observes r) _ _ _ (λ t. if_all (Observes r) _ _ _ tt (record { rises = omega arith; stays = λ q. absurd (omega arith) }))
        (λ t. kept (Some old) e (beq_same (port_connected old) (port_connected raw) (not-false _ t)))

-- 29, 30, or a number of 1 or more
abbrev pub Numbered : ℕ → Result ⊤ Refusal → Type 0
Numbered n (Err r) = is_among r.number (29 ∷ 30 ∷ []) ≡ true
Numbered n (Ok tt) = 1 ≤ n

pub number_said : (p : Option Ports) (n : ℕ) → Numbered n (number_checked p n)
unfolding number_checked
number_said None n = refl
number_said (Some p) n = if_by (Numbered n) _ _ _ (λ t. refl) (λ t. above n t)
  where
    above : (n : ℕ) → (eqb n 0 || ltb p.count n) ≡ false → 1 ≤ n
    above zero t = absurd (true≢false t)
    above (suc n) t = omega arith

-- past 31 the id's generation is the row's
pub same_generation : (p : Option Ports) (id : PortId) (row : PortRow)
    → (not (of_opening p id.session) || not (eqb id.generation row.generation)) ≡ false
    → id.generation ≡ row.generation
same_generation p id row t =
    let e = (or_false (not (of_opening p id.session)) (not (eqb id.generation row.generation)) t).1 in
    eqb-true id.generation row.generation (not-false (eqb id.generation row.generation) e)

-- ---- a slot's device and a port's row, and the later bus

module _ (slot number : ℕ) where
  pub record Onward (b b' : Bus) : Type 0 where
    pub same : device_at b' slot ≡ device_at b slot
    pub later : 1 ≤ number → Later (port_at b number) (port_at b' number)

  still : (b : Bus) → Onward b b
  still b = record { same = refl; later = λ h. later_same (port_at b number) }

  onward : (a b c : Bus) → Onward a b → Onward b c → Onward a c
  onward a b c x y = record { same = y.same ∙ x.same; later = λ h. later_on (port_at a number) (port_at b number) (port_at c number) (x.later h) (y.later h) }

  -- a port's row put, by a reading of that port or of another
  put_later : (b : Bus) (n : ℕ) (row : PortRow) → (1 ≤ number → port_index number ≡ port_index n → Later (port_at b n) row) → Onward b (put_port b n row)
  unfolding put_port
  put_later b n row k = record { same = refl; later = go }
    where
      here : ℕ
      here = port_index number

      go : 1 ≤ number → Later (get_or b.ports here new_port) (get_or (set b.ports (port_index n) row) here new_port)
      go h =
          caseB (eqb here (port_index n))
          (λ e.
          let q = eqb-true here (port_index n) e in
          caseB (ltb (port_index n) (length b.ports))
          (λ t. rw (q, get_or-set_same b.ports (port_index n) row new_port (ltb-true _ _ t)) (k h q))
          (λ t. rw (set_out b.ports (port_index n) row (ltb-false _ _ t)) (later_same (get_or b.ports here new_port))))
          (λ e. rw (get_or-set_other b.ports (port_index n) here row new_port (eqb-false here (port_index n) e)) (later_same (get_or b.ports here new_port)))

  fresh_later : (p : Option Ports) (id : PortId) (x : Result ℕ OperationError) (b : Bus) → Onward b (fresh_port p id x b).lent
  unfolding fresh_port fresh_port_by fresh_reading fresh_word observe_port observe_port_by
  fresh_later p id x b = by_port (validated p id b) x
    where
      by_observed : (o : Result PortRow Refusal) → Observes (port_at b id.number) o → Onward b (observe_port_by o id.number b).lent
      by_observed (Err r) k = still b
      by_observed (Ok row) k = put_later b id.number row (λ h e. k)

      by_port : (c : Result ℕ Refusal) (x : Result ℕ OperationError) → Onward b (fresh_port_by c x p id b).lent
      by_port (Err r) x = still b
      by_port (Ok raw) (Err e) = still b
      by_port (Ok raw) (Ok now) = by_observed (observed_row (port_at b id.number) now) (observed_later (port_at b id.number) now)

  target_later : (ready : Bool) (p : Option Ports) (m : RequestMetadata) (x : Readings) (b : Bus) → Onward b (check_target ready p m x b).lent
  unfolding check_target check_target_by check_device check_device_by fresh_device check_endpoint
  target_later ready p m x b = by_known (known_device ready m.device b)
    where
      second : (k : Result DeviceSnapshot Refusal) (c : Bus) → Onward c (check_target_by k p m x.second c).lent
      second (Err r) c = still c
      second (Ok d) c =
          if_all (λ (o : After (Result ⊤ Refusal) Bus). Onward c o.lent) _ _ _ (still c)
          (if_all (λ (o : After (Result ⊤ Refusal) Bus). Onward c o.lent) _ _ _ (still c) (fresh_later p d.port x.second c))

      by_known : (k : Result DeviceSnapshot Refusal) → (let o = check_device_by k p x.first b in Onward b (check_target_by o.result p m x.second o.lent).lent)
      by_known (Err r) = still b
      by_known (Ok d) =
          let c = (fresh_port p d.port x.first b).lent in
          onward b c _ (fresh_later p d.port x.first b) (second (prepared_device (fresh_port p d.port x.first b).result d) c)

  targeted : (d : Draft) (x : Readings) (s : Session) (l : Lent) → Onward l.bus (target_of d x s l).lent.bus
  unfolding target_of target_by
  targeted d x s l = by_verdict seen.result
    where
      seen : After (Result ⊤ Refusal) Bus
      seen = check_target (is_initialized s.state) s.ports d.metadata x l.bus

      reads : Onward l.bus seen.lent
      reads = target_later (is_initialized s.state) s.ports d.metadata x l.bus

      by_verdict : (v : Result ⊤ Refusal) → Onward l.bus (target_by v d s (lent seen.lent l.memory)).lent.bus
      by_verdict (Err r) = reads
      by_verdict (Ok tt) = reads

  place_later : (p : Placing) (w : World) → places_one slot number p ≡ false → Onward w.lent.bus (placed_of p w).lent
  unfolding placed_of set_device_of set_port_of set_endpoints_of set_reconcile_of placed guarded set_port set_port_by set_endpoints put_device put_endpoints put_mark
  place_later q w e = go q e
    where
      b : Bus
      b = w.lent.bus

      To : After (Result ⊤ Refusal) Bus → Type 0
      To o = Onward b o.lent

      by_number : (v : Result ⊤ Refusal) (n : ℕ) (row : PortRow) → eqb n number ≡ false → Numbered n v → To (set_port_by v n row b)
      by_number (Err r) n row e k = still b
      by_number (Ok tt) n row e k = put_later b n row (λ h q. absurd (eqb-false n number e (omega arith)))

      go : (q : Placing) → places_one slot number q ≡ false → To (placed_of q w)
      go (Device d) e =
          if_all To _ _ _ (still b) (if_all To _ _ _ (still b)
          (record { same = get_or-set_other b.devices d.id.slot slot _ _ (λ q. eqb-false _ _ e (sym q)); later = λ h. later_same (port_at b number) }))
      go (Port n row) e =
          if_all To _ _ _ (still b) (if_all To _ _ _ (still b)
          (by_number (number_checked w.session.ports n) n row e (number_said w.session.ports n)))
      go (Endpoints n list) e =
          if_all To _ _ _ (still b) (if_all To _ _ _ (still b)
          (if_all To _ _ _ (still b) (record { same = refl; later = λ h. later_same (port_at b number) })))
      go (Reconcile n mark) e =
          if_all To _ _ _ (still b) (if_all To _ _ _ (still b) (record { same = refl; later = λ h. later_same (port_at b number) }))

  pub step_later : (c : Call) (w : World) → is_opening c ≡ false → places_at slot number c ≡ false → Onward w.lent.bus (step_of c w).lent.bus
  unfolding step_of begun_of replied_of
  step_later (Open o) w e k = absurd (true≢false e)
  step_later (Place p) w e k = place_later p w k
  step_later (Move m) w e k = still w.lent.bus
  step_later (Begin (Submit packets q)) w e k =
      submit_all q w.session w.lent (λ o. Onward w.lent.bus o.lent.bus) (λ x early. still w.lent.bus)
      (λ i room size. targeted _ q.readings w.session w.lent) packets
  step_later (Begin (SubmitPlan q)) w e k =
      plan_all q.plan q.bytes q.reading w.session w.lent (λ o. Onward w.lent.bus o.lent.bus) (λ x early. still w.lent.bus)
      (λ i room size. targeted _ _ w.session w.lent)
  step_later (Begin (Poll id)) w e k = still w.lent.bus
  step_later (Begin (Recover id kind)) w e k = still w.lent.bus
  step_later (Reply (ToSubmit reply)) w e k = still w.lent.bus
  step_later (Reply (ToPoll reply bytes)) w e k = still w.lent.bus
  step_later (Reply (ToRecovery reply lists)) w e k = still w.lent.bus
  step_later (Change id c) w e k = still w.lent.bus
  step_later (Read r) w e k = still w.lent.bus
