-- Those who watch ports: a reading whose connected bit differs makes the ids of its port stale, and they stay so. Assumes nothing.
use Rattle.std.specs.Prelude.{Option, Some, None, Result, Ok, Err, ⊤}
use Prim.Native.Nat.{ℕ, ◌+◌, ◌<◌, ◌≤◌}
use mathlib.Core.Bool.{Bool, true, false, not, ◌||◌, beq, true≢false}
use mathlib.Core.List.{List, [], ◌∷◌, ◌++◌}
use mathlib.Core.Path.{◌≡◌, refl, sym, ap, ◌∙◌, subst}
use native.Mathlib.Omega.{arith}
use borrow.Author.Tests.{ltb-true, ltb-false, not-false}
use lib.Dec.{eqb, ltb}
use lib.Seq.{get_or-set_same}
use Rattle.chain.specs.After.{After, after}
use Rattle.chain.specs.Chain.{◌if◌else◌}
use Rattle.chain.specs.Lists.{is_among}
use Rattle.chain.proofs.Chain.{caseB, if_all, if_by}
use Rattle.chain.proofs.Lists.{inside, all_in_lem}
use Rattle.models.specs.Kinds.{is_control, is_prepared, is_configured}
use Rattle.models.specs.Refusals.{refusal_of}
use Rattle.models.specs.declared.{DeviceSnapshot.DeviceSnapshot, DeviceState.DeviceState, OperationError.OperationError, PortId.PortId, Ports.Ports, Refusal.Refusal, RequestMetadata.RequestMetadata}
use Rattle.models.specs.declared.DeviceState.TheVariants.{Configured}
use Rattle.standards.specs.Ports.{port_connected}
use Rattle.bus.specs.Ports.{number_checked, reading_checked, of_opening, validated_row, validated_by, validated, raised_row, observed_by, observed_row, observe_port_by, observe_port, fresh_observed, fresh_word, fresh_reading, fresh_port_by, fresh_port}
use Rattle.bus.specs.Tables.{Bus, new_port, port_index, port_at, device_at, put_port}
use Rattle.bus.specs.declared.{PortRow.PortRow}
use Rattle.checks.specs.Plan.{plan_of}
use Rattle.checks.specs.Prepare.{metadata_of}
use Rattle.targets.specs.Target.{known_by, known_device, prepared_device, fresh_device, check_device_by, check_device, endpoint_by, check_endpoint, check_target_by, check_target}
use Rattle.targets.specs.declared.{Readings.Readings}
use Rattle.session.specs.Lent.{Lent, lent}
use Rattle.session.specs.Session.{is_initialized}
use Rattle.session.specs.Sizes.{place_of}
use Rattle.submissions.specs.Begin.{Draft, draft, target_by, target_of}
use Rattle.submissions.specs.Said.{early_numbers}
use Rattle.submissions.specs.Submit.{Request, submitted_by, submitted_to}
use Rattle.submissions.specs.Plan.{plan_started, planned_to}
use Rattle.calls.specs.Answers.{of_submit, of_plan}
use Rattle.calls.specs.Calls.{Beginning, Submit, SubmitPlan, Poll, Recover, Call, Begin}
use Rattle.calls.specs.Step.{World, begun_of, step_of, next}
use Rattle.calls.specs.declared.{Answer.Answer}
use Rattle.runs.specs.Run.{Handed, own, rows_only, other, Event, left_by, end_of, Handing, Follows, calls}
use Rattle.runs.proofs.Handings.{follows_at, follows_on, follows_front}
use Rattle.runs.proofs.Stages.{submit_all, plan_all}
use Rattle.history.specs.Watcher.{Turned, LeavesBy, Leaves, Asks, Second, Reads, found_by, unread_numbers, stale_numbers, Refuses, Noticed, unread, full, turned, Watched}
use Rattle.history.proofs.Later.{SameBit, beq_same, Numbered, number_said, same_generation, Onward, step_later}
use Rattle.session.specs.Called.{call_refused}
use Rattle.session.specs.declared.{Called.Called}
use Rattle.submissions.specs.declared.{begin.Start.Start}

-- ---- a submission that is refused at its device or at one of its readings, for whatever is claimed of answer and bus
module _ (slot : ℕ) (d : DeviceSnapshot) (w : World) (stands : device_at w.lent.bus slot ≡ Some d) (R : Answer → Bus → Type 0)
    (early : (y : Refusal) → is_among y.number unread_numbers ≡ true → R (Answer.Refused y) w.lent.bus) where
  abbrev PortStops : Result ℕ Refusal → Bus → Type 0
  PortStops (Err r) b = R (Answer.Refused r) b
  PortStops (Ok raw) b = ⊥

  abbrev Stops : Result ⊤ Refusal → Bus → Type 0
  Stops (Err r) b = R (Answer.Refused r) b
  Stops (Ok tt) b = ⊥

  -- from the device's answer on
  abbrev DeviceStops : RequestMetadata → Result ℕ OperationError → Result DeviceSnapshot Refusal → Bus → Type 0
  DeviceStops m second c b = let o = check_target_by c w.session.ports m second b in Stops o.result o.lent

  -- from the first reading on
  abbrev ReadStops : RequestMetadata → Readings → Type 0
  ReadStops m x = let o = fresh_port w.session.ports d.port x.first w.lent.bus in DeviceStops m x.second (prepared_device o.result d) o.lent

  abbrev BeginStops : Beginning → Type 0
  BeginStops (Submit packets q) = ReadStops (metadata_of q.spec) q.readings
  BeginStops (SubmitPlan q) = ReadStops (plan_of q.plan).metadata (record { first = q.reading; second = q.reading })
  BeginStops (Poll id) = Unit {0}
  BeginStops (Recover id kind) = Unit {0}

  -- at the first reading
  first_stops : (m : RequestMetadata) (second : Result ℕ OperationError) (c : Result ℕ Refusal) (b : Bus) → PortStops c b → DeviceStops m second (prepared_device c d) b
  unfolding prepared_device check_target_by
  first_stops m second (Err r) b n = n
  first_stops m second (Ok raw) b n = absurd n

  -- at the second
  second_stops : (m : RequestMetadata) (second : Result ℕ OperationError) (raw : ℕ) (b : Bus) → is_control m.transfer_type ≡ false → d.state ≡ Configured
      → (let o = fresh_port w.session.ports d.port second b in PortStops o.result o.lent)
      → DeviceStops m second (prepared_device (Ok raw) d) b
  unfolding prepared_device check_target_by check_endpoint endpoint_by
  second_stops m second raw b not_control is k =
      if_by (λ (c : Result DeviceSnapshot Refusal). DeviceStops m second c b) _ _ _ (λ t. absurd (true≢false (sym t ∙ ap (λ (s : DeviceState). not (is_prepared s)) is)))
      (λ t. if_by Ends _ _ _ (λ t. absurd (true≢false (sym t ∙ not_control)))
      (λ t. if_by Ends _ _ _ (λ t. absurd (true≢false (sym t ∙ ap (λ (s : DeviceState). not (is_configured s)) is))) (λ t. by_port seen.result k)))
    where
      seen : After (Result ℕ Refusal) Bus
      seen = fresh_port w.session.ports d.port second b

      Ends : After (Result ⊤ Refusal) Bus → Type 0
      Ends o = Stops o.result o.lent

      by_port : (c : Result ℕ Refusal) → PortStops c seen.lent → Stops (endpoint_by c m seen.lent) seen.lent
      by_port (Err r) n = n
      by_port (Ok raw) n = absurd n

  target_stops : (ready : Bool) (m : RequestMetadata) (x : Readings) → m.device.slot ≡ slot → ReadStops m x
      → (let o = check_target ready w.session.ports m x w.lent.bus in Stops o.result o.lent)
  unfolding check_target check_target_by check_device check_device_by fresh_device known_device known_by
  target_stops ready m x e k =
      if_all Known _ _ _ (early _ refl)
      (subst (λ (o : Option DeviceSnapshot). Known (known_by o ready m.device)) (sym (ap (device_at w.lent.bus) e ∙ stands))
      (if_all Known _ _ _ (early _ refl) (if_all Known _ _ _ (early _ refl) k)))
    where
      Known : Result DeviceSnapshot Refusal → Type 0
      Known c = let o = check_device_by c w.session.ports x.first w.lent.bus in DeviceStops m x.second o.result o.lent

  start_stops : (r : Draft) (x : Readings) → r.metadata.device.slot ≡ slot → ReadStops r.metadata x → (P : After (Called Start) Lent → Type 0)
      → ((y : Refusal) (b : Bus) → R (Answer.Refused y) b → P (after (call_refused w.session y) (lent b w.lent.memory)))
      → P (target_of r x w.session w.lent)
  unfolding target_of target_by
  start_stops r x e k P stop = by_verdict seen.result (target_stops (is_initialized w.session.state) r.metadata x e k)
    where
      seen : After (Result ⊤ Refusal) Bus
      seen = check_target (is_initialized w.session.state) w.session.ports r.metadata x w.lent.bus

      by_verdict : (v : Result ⊤ Refusal) → Stops v seen.lent → P (target_by v r w.session (lent seen.lent w.lent.memory))
      by_verdict (Err y) n = stop y seen.lent n
      by_verdict (Ok tt) n = absurd n

  asked : (f : Beginning) → Asks slot f → BeginStops f → R (begun_of f w).result.answer (begun_of f w).lent.bus
  unfolding begun_of submitted_by plan_started
  asked (Submit packets q) e k =
      submit_all q w.session w.lent (λ o. R (of_submit o.result.answer) o.lent.bus) (λ x n. early x (all_in_lem early_numbers unread_numbers x.number refl n))
      (λ i room size.
      start_stops (draft (place_of w.session.size i) (metadata_of q.spec) q.bytes) q.readings e k
      (λ o. R (of_submit (submitted_to o (metadata_of q.spec) q.given).result.answer) o.lent.bus) (λ y b n. n))
      packets
  asked (SubmitPlan q) e k =
      plan_all q.plan q.bytes q.reading w.session w.lent (λ o. R (of_plan o.result.answer) o.lent.bus) (λ x n. early x (all_in_lem early_numbers unread_numbers x.number refl n))
      (λ i room size.
      start_stops (draft (place_of w.session.size i) (plan_of q.plan).metadata q.bytes) (record { first = q.reading; second = q.reading }) e k
      (λ o. R (of_plan (planned_to o (plan_of q.plan)).result.answer) o.lent.bus) (λ y b n. n))
  asked (Poll id) e k = absurd e
  asked (Recover id kind) e k = absurd e

refused : {ns : List ℕ} (x : Refusal) → is_among x.number ns ≡ true → Refuses ns (Answer.Refused x)
refused x h = record { refusal = x; is = refl; among = h }

-- ---- a reading of a port whose id is valid and observed
abbrev is_read : Option ℕ → Bool
is_read None = false
is_read (Some raw) = true

beq_self : (a : Bool) → beq a a ≡ true
beq_self true = refl
beq_self false = refl

-- 29 to 32 passed
record Valid (p : Option Ports) (id : PortId) (b : Bus) (old : ℕ) : Type 0 where
  numbered : number_checked p id.number ≡ (Ok tt)
  current : (not (of_opening p id.session) || not (eqb id.generation (port_at b id.number).generation)) ≡ false
  last : (port_at b id.number).reading ≡ Some old

valid_told : (p : Option Ports) (id : PortId) (b : Bus) (old : ℕ) → validated p id b ≡ Ok old → Valid p id b old
unfolding validated validated_by validated_row reading_checked
valid_told p id b old = by_number (number_checked p id.number) refl
  where
    row : PortRow
    row = port_at b id.number

    Told : Result ℕ Refusal → Type 0
    Told c = c ≡ Ok old → Valid p id b old

    by_reading : (o : Option ℕ) → reading_checked o ≡ Ok old → o ≡ Some old
    by_reading None e = let z : ◌≡◌ {A = ℕ} 0 1 = cc in absurd (omega arith)
    by_reading (Some raw) e = cc

    by_number : (v : Result ⊤ Refusal) → number_checked p id.number ≡ v → Told (validated_by v p id b)
    by_number (Err r) n = λ e. let z : ◌≡◌ {A = ℕ} 0 1 = cc in absurd (omega arith)
    by_number (Ok tt) n =
        if_by Told _ _ _ (λ t e. let z : ◌≡◌ {A = ℕ} 0 1 = cc in absurd (omega arith))
        (λ t e. record { numbered = n; current = t; last = by_reading row.reading e })

module _ (p : Option Ports) (id : PortId) (b : Bus) (old raw : ℕ) (valid : validated p id b ≡ Ok old) where
  told : Valid p id b old
  told = valid_told p id b old valid

  abbrev row : PortRow
  row = port_at b id.number

  generation_is : id.generation ≡ row.generation
  generation_is = same_generation p id row told.current

  -- the row with that reading
  abbrev with_reading : ℕ → PortRow
  with_reading g = record { generation = g; reading = Some raw }

  put_is : (r : PortRow) → port_at (put_port b id.number r) id.number ≡ r
  unfolding put_port
  put_is r =
      get_or-set_same b.ports (port_index id.number) r new_port
      (inside (λ (r : PortRow). is_read r.reading) b.ports (port_index id.number) new_port refl (ap is_read told.last))

  -- by what is observed
  observed_all : (P : Result ℕ Refusal → Bus → Type 0)
      → (let o = observe_port_by (observed_by (Some old) row raw) id.number b in P (fresh_observed o.result p id) o.lent)
      → (let o = fresh_port p id (Ok raw) b in P o.result o.lent)
  unfolding fresh_port fresh_port_by fresh_reading fresh_word observe_port observed_row
  observed_all P k =
      subst (λ (c : Result ℕ Refusal). let o = fresh_port_by c (Ok raw) p id b in P o.result o.lent) (sym valid)
      (subst (λ (x : Option ℕ). let o = observe_port_by (observed_by x row raw) id.number b in P (fresh_observed o.result p id) o.lent) (sym told.last) k)

  -- its connected bit differs: 34, or 31 and the row is written
  differing : (port_connected old ≡ port_connected raw → ⊥) → (P : Result ℕ Refusal → Bus → Type 0) → P (Err (refusal_of 34)) b
      → ((b' : Bus) → (port_at b' id.number).reading ≡ Some raw → P (Err (refusal_of 31)) b')
      → (let o = fresh_port p id (Ok raw) b in P o.result o.lent)
  unfolding observed_by raised_row observe_port_by fresh_observed validated_row
  differing differs P most stale =
      observed_all P (if_by Observing _ _ _ (λ t. if_all Observing _ _ _ most again)
      (λ t. absurd (differs (beq_same (port_connected old) (port_connected raw) (not-false _ t)))))
    where
      Observing : Result PortRow Refusal → Type 0
      Observing x = let o = observe_port_by x id.number b in P (fresh_observed o.result p id) o.lent

      raised : PortRow
      raised = with_reading (row.generation + 1)

      again : Observing (Ok raised)
      again =
          if_by (λ (c : Result ℕ Refusal). P c (put_port b id.number raised)) _ _ _
          (λ t. stale _ (ap (λ (r : PortRow). r.reading) (put_is raised)))
          (λ t. absurd (omega (arith, generation_is, same_generation p id raised t)))

  -- it is the same: the row is written, and the id stays valid
  agreeing : port_connected old ≡ port_connected raw → (P : Result ℕ Refusal → Bus → Type 0) → P (Ok raw) (found_by id (Some raw) b)
      → (let o = fresh_port p id (Ok raw) b in P o.result o.lent)
  unfolding observed_by observe_port_by fresh_observed validated_row reading_checked ◌if◌else◌
  agreeing same P k = observed_all P (rw (same, beq_self (port_connected raw), told.current) k)

  still_valid : validated p id (found_by id (Some raw) b) ≡ Ok raw
  unfolding validated validated_by validated_row reading_checked ◌if◌else◌
  still_valid = rw (told.numbered, put_is (with_reading row.generation), told.current) refl

-- ---- a submission with a reading whose connected bit differs
module _ (slot : ℕ) (d : DeviceSnapshot) (w : World) (stands : device_at w.lent.bus slot ≡ Some d) (old raw : ℕ)
    (valid : validated w.session.ports d.port w.lent.bus ≡ Ok old) (differs : port_connected old ≡ port_connected raw → ⊥) where
  abbrev before : Bus
  before = w.lent.bus

  abbrev Notes : Option ℕ → Answer → Bus → Type 0
  Notes earlier a b = Noticed d.port earlier before a b

  notes_early : (earlier : Option ℕ) (y : Refusal) → is_among y.number unread_numbers ≡ true → Notes earlier (Answer.Refused y) before
  notes_early earlier y n = unread (refused y n) refl

  turns : (earlier : Option ℕ) (b : Bus) → (port_at b d.port.number).reading ≡ Some raw → Notes earlier (Answer.Refused (refusal_of 31)) b
  turns earlier b e = turned refl (record {
    old = old;
    raw = raw;
    last = (told w.session.ports d.port before old raw valid).last;
    taken = e;
    differs = differs;
    current = generation_is w.session.ports d.port before old raw valid;
  })

  abbrev Stop : Option ℕ → Result ℕ Refusal → Bus → Type 0
  Stop earlier = PortStops slot d w stands (Notes earlier) (notes_early earlier)

  abbrev Stopped : Option ℕ → RequestMetadata → Readings → Type 0
  Stopped earlier = ReadStops slot d w stands (Notes earlier) (notes_early earlier)

  notes_first : (m : RequestMetadata) (x : Readings) → x.first ≡ Ok raw → Stopped None m x
  notes_first m x e =
      subst (λ (r : Result ℕ OperationError). Stopped None m (record { first = r; second = x.second })) (sym e)
      (first_stops slot d w stands (Notes None) (notes_early None) m x.second _ _
      (differing w.session.ports d.port before old raw valid differs (Stop None) (full refl refl) (turns None)))

  notes_second : (first : ℕ) (q : Request) → Second d old first raw q → Stopped (Some first) (metadata_of q.spec) q.readings
  notes_second first q k =
      let p = w.session.ports in
      let m = metadata_of q.spec in
      let earlier = Some first in
      let found = found_by d.port earlier before in
      subst (Stopped earlier m) (sym k.readings)
      (agreeing p d.port before old first valid k.agrees
      (λ c b. DeviceStops slot d w stands (Notes earlier) (notes_early earlier) m (Ok raw) (prepared_device c d) b)
      (second_stops slot d w stands (Notes earlier) (notes_early earlier) m (Ok raw) first found k.not_control k.configured
      (differing p d.port found first raw (still_valid p d.port before old first valid) (λ e. differs (k.agrees ∙ e)) (Stop earlier)
      (full refl refl) (turns earlier))))

  read_stops : (f : Beginning) (earlier : Option ℕ) → Reads d old earlier raw f → BeginStops slot d w stands (Notes earlier) (notes_early earlier) f
  read_stops (Submit packets q) None k = notes_first (metadata_of q.spec) q.readings k
  read_stops (Submit packets q) (Some first) k = notes_second first q k
  read_stops (SubmitPlan q) None k = notes_first (plan_of q.plan).metadata (record { first = q.reading; second = q.reading }) k
  read_stops (SubmitPlan q) (Some first) k = absurd k
  read_stops (Poll id) earlier k = tt
  read_stops (Recover id kind) earlier k = tt

  notes : (f : Beginning) (earlier : Option ℕ) → Asks slot f → Reads d old earlier raw f → Notes earlier (begun_of f w).result.answer (begun_of f w).lent.bus
  notes f earlier e k = asked slot d w stands (Notes earlier) (notes_early earlier) f e (read_stops f earlier k)

-- ---- a device whose port has a later generation

-- refused by 31 or before it
abbrev Cut : Result ℕ Refusal → Type 0
Cut (Err r) = is_among r.number stale_numbers ≡ true
Cut (Ok raw) = ⊥

module _ (slot : ℕ) (d : DeviceSnapshot) where
  record Stale (b : Bus) : Type 0 where
    stands : device_at b slot ≡ Some d
    below : 1 ≤ d.port.number → d.port.generation < (port_at b d.port.number).generation

  stale_on : (b b' : Bus) → Onward slot d.port.number b b' → Stale b → Stale b'
  stale_on b b' x k = record { stands = x.same ∙ k.stands; below = λ h. omega (arith, k.below h, (x.later h).rises) }

  turned_stale : (b b' : Bus) → Onward slot d.port.number b b' → device_at b slot ≡ Some d → Turned d.port b b' → Stale b'
  turned_stale b b' x e t = record { stands = x.same ∙ e; below = λ h. go h }
    where
      was : PortRow
      was = port_at b d.port.number

      is : PortRow
      is = port_at b' d.port.number

      go : 1 ≤ d.port.number → d.port.generation < is.generation
      go h =
          caseB (ltb was.generation is.generation) (λ y. omega (arith, t.current, ltb-true was.generation is.generation y))
          (λ y.
          let k = (x.later h).stays (omega (arith, (x.later h).rises, ltb-false was.generation is.generation y)) in
          let j = subst (λ (o : Option ℕ). SameBit o is.reading) t.last k in
          absurd (t.differs (subst (λ (o : Option ℕ). SameBit (Some t.old) o) t.taken j)))

  -- 29, 30 or 31
  port_cut : (p : Option Ports) (b : Bus) → Stale b → Cut (validated p d.port b)
  unfolding validated validated_by validated_row
  port_cut p b k = by_number (number_checked p d.port.number) (number_said p d.port.number)
    where
      row : PortRow
      row = port_at b d.port.number

      by_number : (v : Result ⊤ Refusal) → Numbered d.port.number v → Cut (validated_by v p d.port b)
      by_number (Err r) n = all_in_lem (29 ∷ 30 ∷ []) stale_numbers r.number refl n
      by_number (Ok tt) n =
          if_by Cut _ _ _ (λ t. refl)
          (λ t. absurd (omega (arith, k.below n, same_generation p d.port row t)))

  cut : (f : Beginning) (w : World) → Asks slot f → Stale w.lent.bus → Refuses stale_numbers (begun_of f w).result.answer
  unfolding fresh_port fresh_port_by
  cut f w e k = asked slot d w k.stands Low early f e (stops f)
    where
      Low : Answer → Bus → Type 0
      Low a b = Refuses stale_numbers a

      early : (y : Refusal) → is_among y.number unread_numbers ≡ true → Low (Answer.Refused y) w.lent.bus
      early y n = refused y (all_in_lem unread_numbers stale_numbers y.number refl n)

      by_port : (x : Result ℕ OperationError) (c : Result ℕ Refusal) → Cut c
          → (let o = fresh_port_by c x w.session.ports d.port w.lent.bus in PortStops slot d w k.stands Low early o.result o.lent)
      by_port x (Err r) n = refused r n
      by_port x (Ok raw) n = absurd n

      reads : (m : RequestMetadata) (x : Readings) → ReadStops slot d w k.stands Low early m x
      reads m x =
          first_stops slot d w k.stands Low early m x.second _ _
          (by_port x.first (validated w.session.ports d.port w.lent.bus) (port_cut w.session.ports w.lent.bus k))

      stops : (f : Beginning) → BeginStops slot d w k.stands Low early f
      stops (Submit packets q) = reads (metadata_of q.spec) q.readings
      stops (SubmitPlan q) = reads (plan_of q.plan).metadata (record { first = q.reading; second = q.reading })
      stops (Poll id) = tt
      stops (Recover id kind) = tt

  left_stale : (h : Handed) (c : Call) (w : World) → Handing h c → LeavesBy slot d.port.number h c → Stale w.lent.bus → Stale (left_by h c w).lent.bus
  left_stale own c w e l k = stale_on _ _ (step_later slot d.port.number c w e l) k
  left_stale (rows_only bus area) c w e l k = absurd l
  left_stale (other v) c w e l k = k

  run_stale : (es : List Event) (w : World) → Follows es → Leaves slot d.port.number es → Stale w.lent.bus → Stale (end_of w es).lent.bus
  run_stale [] w f l k = k
  run_stale (e ∷ es) w f l k = run_stale es (left_by e.handed e.call w) f.1 l.1 (left_stale e.handed e.call w f.0 l.0 k)

pub watched : (w : World) (es : List Event) → Follows es → Watched w es
unfolding step_of
watched w es all = record {
  noticed = λ slot d before after f earlier old raw is stands asks reads valid differs.
      notes slot d (end_of w before) stands old raw valid differs f earlier asks reads;
  refused = λ slot d before mid after c f is stands turns leaves asks.
      let run = subst Follows is all in
      let on = step_later slot d.port.number c (end_of w before) (follows_at before (mid ++ (calls (Begin f) ∷ after)) (calls c) run) leaves.0 in
      let then = next (step_of c (end_of w before)) in
      let rest = follows_front mid (calls (Begin f) ∷ after) (follows_on before (mid ++ (calls (Begin f) ∷ after)) (calls c) run) in
      cut slot d f (end_of then mid) asks (run_stale slot d mid then rest leaves.1 (turned_stale slot d _ _ on stands turns));
}
