-- No call writes into the bytes of a row that is held before and after it. Assumes nothing.
use Rattle.std.specs.Prelude.{Option, Some, None, Result, Ok, Err, ⊤}
use Prim.Native.Nat.{ℕ, ◌+◌, ◌*◌, ◌<◌, ◌≤◌, min}
use mathlib.Core.Bool.{Bool, true, false, not, true≢false, false≢true}
use mathlib.Core.List.{List, [], ◌++◌}
use mathlib.Core.Logic.{◌⊎◌, inl, inr}
use mathlib.Core.Path.{◌≡◌, refl, sym, ap, ◌∙◌}
use native.Mathlib.Omega.{arith}
use lib.ListN.{length, set, take, drop, length-set, length-take, length-replicate}
use lib.Seq.{get_or-set_same, get_or-set_other}
use Rattle.chain.specs.After.{After}
use Rattle.chain.specs.Chain.{◌if◌else◌}
use Rattle.chain.proofs.Chain.{caseB, if_all, if_by}
use Rattle.chain.proofs.Lists.{inside}
use Rattle.words.specs.Records.{splice, splice_cut}
use Rattle.words.proofs.Records.{splice-length, part-splice_apart, record_in, record_apart}
use Rattle.models.specs.declared.{BackendCompletion.BackendCompletion, ControlPlan.ControlPlan, DeviceId.DeviceId, OperationError.OperationError, Refusal.Refusal, RequestMetadata.RequestMetadata, RequestReport.RequestReport}
use Rattle.models.specs.declared.RequestState.TheVariants.{Aborted}
use Rattle.rows.specs.Store.{Store, put_in}
use Rattle.rows.specs.InPlace.{completed_row}
use Rattle.rows.specs.Table.{empty_row, is_held, row_in}
use Rattle.rows.specs.declared.{Row.Row}
use Rattle.rules.specs.Rules.{moved, completed, abort_confirmed, change_row, with_state}
use Rattle.rules.specs.declared.Change.TheVariants as change
use Rattle.ledger.specs.Apply.{apply_by, changed_at}
use Rattle.checks.specs.Completion.{test_completion}
use Rattle.checks.specs.Plan.{plan_of}
use Rattle.checks.specs.Prepare.{metadata_of}
use Rattle.session.specs.Lent.{Memory, Lent, memory, memory_fits, lent_fits}
use Rattle.session.specs.Session.{with_flight}
use Rattle.session.specs.Sizes.{place_of}
use Rattle.session.specs.declared.{Called.Called, InFlight.InFlight, Session.Session, Size.Size}
use Rattle.session.proofs.sizes.Laws.{area_bytes, lent_memory}
use Rattle.polls.specs.PollReply.{failed_as, invalid_as, judged_test, judged_by, judged, stored_in, settled, poll_reply_at, poll_reply_found, poll_reply_in, poll_reply_of}
use Rattle.polls.specs.declared.{PollAnswer.PollAnswer, poll_reply.Judgement.Judgement}
use Rattle.submissions.specs.Begin.{draft, buffer_of, write_of}
use Rattle.submissions.specs.Submit.{Request, submit_target, submit_by, submit_of}
use Rattle.submissions.specs.Plan.{plan_target, submit_plan_by, submit_plan_of}
use Rattle.scope.specs.Returned.{Returned}
use Rattle.scope.specs.Scope.{in_scope}
use Rattle.recovery.specs.Entries.{row_completed_by, tested_by, complete_one, aborted_by, abort_one}
use Rattle.recovery.specs.RecoveryReply.{ReplyLists, apply_all, is_whole, settled_of, reply_sized, reply_in, recovery_reply_of}
use Rattle.recovery.specs.declared.{BackendAbort.BackendAbort, Replied.Replied}
use Rattle.calls.specs.Calls.{Submit, SubmitPlan, Poll, Recover, ToSubmit, ToPoll, ToRecovery, Call, Open, Place, Move, Begin, Reply, Change, Read}
use Rattle.calls.specs.Step.{World, begun_of, replied_of, step_of}
use Rattle.runs.specs.Run.{is_opening}
use Rattle.runs.proofs.Affected.{meant_below, own_tokens, place_meant}
use Rattle.runs.proofs.Entries.{Onward, entries_all}
use Rattle.runs.proofs.Held.{unheld_row, free_held, empty_free}
use Rattle.runs.proofs.Rules.{while_all}
use Rattle.runs.proofs.Run.{FittedIn}
use Rattle.submissions.proofs.Admission.{admit_all, admit_plan_all}
use Rattle.runs.proofs.Stages.{Room, room_told, target_all}
use Rattle.runs.proofs.Tokens.{tokens_in, Each, scope_each, reply_tokens}
use Rattle.runs.proofs.Ways.{finish_all, recovery_all}
use Rattle.history.specs.Grabber.{row_bytes, HeldSame}
use Rattle.rules.specs.declared.{Step.Step}
use Rattle.checks.specs.declared.{completion.CompletionFault.CompletionFault, completion.ValidCompletion.ValidCompletion}

-- a step to a row that is not held
abbrev Frees : Result Step Refusal → Type 0
Frees (Err r) = Unit {0}
Frees (Ok n) = is_held n.row ≡ false

complete_frees : (r : Row) (actual code : ℕ) → Frees (change_row r (change.Complete actual code))
unfolding change_row completed completed_row moved
complete_frees r actual code = while_all r.state _ Frees (λ e. tt) (λ e. unheld_row (completed_row r actual code) refl)

abort_frees : (r : Row) → Frees (change_row r change.ConfirmAbort)
unfolding change_row abort_confirmed moved
abort_frees r = if_all Frees _ _ _ tt (unheld_row (with_state r Aborted) refl)

-- where a row that is not held is put, the others that are held are as they were
held_other : (rows : List Row) (p : ℕ) (next : Row) → is_held next ≡ false → (j : ℕ) → is_held (row_in (set rows p next) j) ≡ true
    → (j ≡ p → ⊥) × (is_held (row_in rows j) ≡ true)
held_other rows p next off j on = (apart, sym (ap is_held (get_or-set_other rows p j next empty_row apart)) ∙ on)
  where
    apart : j ≡ p → ⊥
    apart e =
        let h = inside is_held (set rows p next) j empty_row (free_held empty_row empty_free) on in
        let z : is_held next ≡ true = sym (ap is_held (get_or-set_same rows p next empty_row (omega (arith, h, length-set rows p next)))) ∙ rw e at on in
        true≢false (sym z ∙ off)

module _ (z : Size) where
  -- row p's bytes lie in an area of that length
  abbrev Inside : ℕ → ℕ → Type 0
  Inside size p = p * z.row_bytes + z.row_bytes ≤ size

  -- what is written to row p leaves every other row's bytes
  other_bytes : (area bytes : List ℕ) (p j : ℕ) → (j ≡ p → ⊥) → Inside (length area) p → length bytes ≤ z.row_bytes
      → row_bytes z j (splice (p * z.row_bytes) bytes area) ≡ row_bytes z j area
  other_bytes area bytes p j apart h small =
      part-splice_apart (p * z.row_bytes) bytes area (omega arith) (j * z.row_bytes) z.row_bytes (go (record_apart z.row_bytes p j apart))
    where
      go : (j * z.row_bytes + z.row_bytes ≤ p * z.row_bytes) ⊎ (p * z.row_bytes + z.row_bytes ≤ j * z.row_bytes)
          → (j * z.row_bytes + z.row_bytes ≤ p * z.row_bytes) ⊎ (p * z.row_bytes + length bytes ≤ j * z.row_bytes)
      go (inl e) = inl e
      go (inr e) = inr (omega arith)

  -- ---- what replies leave: a row that is held has the bytes that it had
  record Safe (m n : Memory) : Type 0 where
    size : length n.area ≡ length m.area
    same : (i : ℕ) → is_held (row_in n.store.rows i) ≡ true → row_bytes z i n.area ≡ row_bytes z i m.area

  unwritten : (m : Memory) (store : Store) → Safe m (memory store m.area)
  unwritten m store = record { size = refl; same = λ i h. refl }

  module _ (m n : Memory) (k : Safe m n) (p : ℕ) (next : Row) (off : is_held next ≡ false) where
    put_safe : Safe m (memory (put_in n.store p next) n.area)
    unfolding put_in
    put_safe = record { size = k.size; same = λ j on. k.same j (held_other n.store.rows p next off j on).1 }

    -- data is cut at the row's end
    write_safe : (bytes : List ℕ) → Inside (length m.area) p
        → Safe m (memory (put_in n.store p next) (splice_cut (p * z.row_bytes) z.row_bytes bytes n.area))
    unfolding put_in
    write_safe bytes h = record {
      size = splice-length (p * z.row_bytes) cut n.area (omega (arith, small, k.size)) ∙ k.size;
      same = λ j on.
          let e = held_other n.store.rows p next off j on in
          other_bytes n.area cut p j e.0 (omega (arith, k.size)) small ∙ k.same j e.1;
    }
      where
        cut : List ℕ
        cut = take (min (length bytes) z.row_bytes) bytes

        small : length cut ≤ z.row_bytes
        small = omega (arith, length-take (min (length bytes) z.row_bytes) bytes)

  -- the reply to a poll: what is stored is a valid completion's
  abbrev Stores : Row → Judgement → Type 0
  Stores r j = j.stored ≡ true → Frees (change_row r j.change)

  judged_stores : (s : Session) (r : Row) (c : BackendCompletion) (given : ℕ) → Stores r (judged s r c given)
  unfolding judged judged_by failed_as judged_test invalid_as
  judged_stores s r c given = by_error c.error
    where
      by_test : (t : Result ValidCompletion CompletionFault) → Stores r (judged_test t s c)
      by_test (Ok x) = λ e. complete_frees r x.actual_length x.completion_code
      by_test (Err CompletionFault.MissingLength) = λ e. absurd (false≢true e)
      by_test (Err CompletionFault.Invalid) = λ e. absurd (false≢true e)

      by_error : (o : Option OperationError) → Stores r (judged_by o s r c given)
      by_error (Some e) = if_all (Stores r) _ _ _ (λ t. absurd (false≢true t)) (λ t. absurd (false≢true t))
      by_error None = by_test (test_completion c given r.metadata.requested_length)

  module _ (m : Memory) (i : ℕ) (h : Inside (length m.area) i) (bytes : List ℕ) (idle : Session) (same : idle.size ≡ z) where
    settled_safe : (t : Result Step Refusal) (j : Judgement) → (j.stored ≡ true → Frees t) → Safe m (settled (apply_by t i m.store) j i bytes idle m.area).lent
    unfolding settled apply_by stored_in
    settled_safe (Err r) j off = unwritten m m.store
    settled_safe (Ok xs) j off =
        rw same
        (if_by (λ (area : List ℕ). Safe m (memory (put_in m.store i xs.row) area)) _ _ _
        (λ e. write_safe m m (unwritten m m.store) i xs.row (off e) bytes h) (λ e. unwritten m (put_in m.store i xs.row)))

    polled_safe : (x : Result (Option BackendCompletion) OperationError) → Safe m (poll_reply_at x i bytes idle m).lent
    unfolding poll_reply_at changed_at
    polled_safe (Ok None) = unwritten m m.store
    polled_safe (Err e) = unwritten m m.store
    polled_safe (Ok (Some c)) =
        let r = row_in m.store.rows i in settled_safe _ (judged idle r c (length bytes)) (judged_stores idle r c (length bytes))

  -- an entry of a recovery's reply
  module _ (m n : Memory) (k : Safe m n) (p : ℕ) (h : Inside (length m.area) p) where
    completed_safe : (t : Result Step Refusal) → Frees t → (bytes : List ℕ) → Safe m (row_completed_by (apply_by t p n.store) z p bytes n.area).lent
    unfolding row_completed_by apply_by
    completed_safe (Err r) off bytes = k
    completed_safe (Ok xs) off bytes = write_safe m n k p xs.row off bytes h

    tested_safe : (t : Result ValidCompletion CompletionFault) (code : Option ℕ) (bytes : List ℕ) → Safe m (tested_by t code z p bytes n).lent
    unfolding tested_by changed_at
    tested_safe (Err CompletionFault.MissingLength) code bytes = k
    tested_safe (Err CompletionFault.Invalid) code bytes = k
    tested_safe (Ok v) code bytes = completed_safe _ (complete_frees (row_in n.store.rows p) v.actual_length v.completion_code) bytes

    aborted_safe : (t : Result Step Refusal) → Frees t → Safe m (memory (aborted_by (apply_by t p n.store)).lent n.area)
    unfolding aborted_by apply_by
    aborted_safe (Err r) off = k
    aborted_safe (Ok ns) off = put_safe m n k p ns.row off

  module _ (place : ℕ → ℕ) (l : ReplyLists) (m : Memory) where
    abbrev Means : ℕ → Type 0
    Means t = Inside (length m.area) (place t)

    abbrev J : List Returned → List ℕ → List ℕ → Memory → Type 0
    J es ts bytes n = Safe m n × Each Means (tokens_in es ++ ts)

    abbrev P : Result ⊤ Refusal → Memory → Type 0
    P v n = Safe m n

    on : (v : Result ⊤ Refusal) (es : List Returned) (ts bytes : List ℕ) (n : Memory) → J es ts bytes n → Onward place z J P v es ts bytes n
    on (Err r) es ts bytes n h = h.0
    on (Ok tt) es ts bytes n h = h

    apply_safe : Each Means (reply_tokens l) → Safe m (apply_all z place l m).lent
    unfolding complete_one abort_one changed_at
    apply_safe a =
        entries_all place z J P (λ bytes n h. h.0)
        (λ e es ts bytes n h.
        let one : After (Result ⊤ Refusal) Memory = complete_one z (place e.token) e.brought.completion (take e.brought.given bytes) n in
        on one.result es ts (drop e.brought.given bytes) one.lent
        (tested_safe m n h.0 (place e.token) h.1.0 _ e.brought.completion.completion_code (take e.brought.given bytes), h.1.1))
        (λ t ts bytes n h.
        on (abort_one (place t) n.store).result [] ts bytes (memory (abort_one (place t) n.store).lent n.area)
        (aborted_safe m n h.0 (place t) h.1.0 _ (abort_frees (row_in n.store.rows (place t))), h.1.1))
        l m (unwritten m m.store, a)

-- ---- the calls that write
module _ (s : Session) (m : Memory) (whole : length m.store.rows ≡ s.size.row_count) where
  abbrev Leaves : Memory → Type 0
  Leaves n = Safe s.size m n

  same : Leaves m
  same = unwritten s.size m m.store

  row_inside : memory_fits s.size m ≡ true → (i : ℕ) → i < length m.store.rows → Inside s.size (length m.area) i
  row_inside fits i h =
      let all = area_bytes s.size m.store.words (length m.area) fits in
      omega (arith, record_in s.size.row_bytes s.size.row_count i (omega (arith, h, whole)))

  -- 3
  unfit : {A : Type 0} (P : A → Type 0) (a b : A) → memory_fits s.size m ≡ false → P a → P (a if not (memory_fits s.size m) else b)
  unfit P a b e k = if_by P a _ b (λ t. k) (λ t. absurd (true≢false (sym (ap not e) ∙ t)))

  finish_unfit : (x : Result (Option BackendCompletion) OperationError) (bytes : List ℕ) → memory_fits s.size m ≡ false → Leaves (poll_reply_of x bytes s m).lent
  unfolding poll_reply_of poll_reply_in poll_reply_found
  finish_unfit x bytes e = by_flight s.in_flight
    where
      by_flight : (f : InFlight) → Leaves (poll_reply_in f x bytes s m).lent
      by_flight InFlight.Nothing = same
      by_flight (InFlight.Submission id) = same
      by_flight (InFlight.Recovery y) = same
      by_flight (InFlight.Poll id) = unfit (λ (o : After (Called RequestReport) Memory). Leaves o.lent) _ _ e same

  finish_safe : (x : Result (Option BackendCompletion) OperationError) (bytes : List ℕ) → Leaves (poll_reply_of x bytes s m).lent
  finish_safe x bytes =
      caseB (memory_fits s.size m)
      (λ fits. finish_all x bytes s m (λ (o : After (Called RequestReport) Memory). Leaves o.lent) same same
      (λ id own i h hit. polled_safe s.size m i (row_inside fits i h) bytes (with_flight s InFlight.Nothing) refl x))
      (λ e. finish_unfit x bytes e)

  recovery_unfit : (r : Result BackendAbort OperationError) (l : ReplyLists) → memory_fits s.size m ≡ false → Leaves (recovery_reply_of r l s m).lent
  unfolding recovery_reply_of reply_in reply_sized
  recovery_unfit r l e = by_flight s.in_flight
    where
      by_flight : (f : InFlight) → Leaves (reply_in f r l s m).lent
      by_flight InFlight.Nothing = same
      by_flight (InFlight.Submission id) = same
      by_flight (InFlight.Poll id) = same
      by_flight (InFlight.Recovery x) = unfit (λ (o : After Replied Memory). Leaves o.lent) _ _ e same

  scope_safe : memory_fits s.size m ≡ true → (d : DeviceId) (endpoint : ℕ) (whole : Bool) (l : ReplyLists)
      → in_scope whole (own_tokens d endpoint m.store.rows) (l.tokens ++ l.aborted) ≡ true
      → Leaves (apply_all s.size (place_meant d endpoint m.store.rows) l m).lent
  scope_safe fits d endpoint all l n =
      let place : ℕ → ℕ = place_meant d endpoint m.store.rows in
      apply_safe s.size place l m
      (scope_each (own_tokens d endpoint m.store.rows) all l n (Means s.size place l m)
      (λ t e. row_inside fits (place t) (meant_below d endpoint m.store.rows t e)))

  recovery_safe : (r : Result BackendAbort OperationError) (l : ReplyLists) → Leaves (recovery_reply_of r l s m).lent
  unfolding settled_of
  recovery_safe r l =
      caseB (memory_fits s.size m)
      (λ fits. recovery_all l s m (λ (o : After Replied Memory). Leaves o.lent) same same same (λ e. same) same
      (λ x own o n. scope_safe fits x.device x.endpoint (is_whole o) l n) r)
      (λ e. recovery_unfit r l e)

-- a submission writes to a row that was free
module _ (s : Session) (l : Lent) (whole : length l.memory.store.rows ≡ s.size.row_count) where
  abbrev Keeps : Lent → Type 0
  Keeps n = HeldSame s.size l.memory n.memory

  stays : Keeps l
  stays = λ i was is. refl

  module _ (fits : lent_fits s.size l ≡ true) (i : ℕ) (room : Room l.memory.store.rows i) (d : RequestMetadata) (bytes : List ℕ)
      (small : (d.requested_length ≤ s.size.row_bytes) × (length bytes ≤ s.size.row_bytes)) where
    begun_keeps : (j : ℕ) → is_held (row_in l.memory.store.rows j) ≡ true
        → row_bytes s.size j (write_of (i * s.size.row_bytes) d bytes l.memory.area) ≡ row_bytes s.size j l.memory.area
    unfolding write_of
    begun_keeps j was =
        other_bytes s.size l.memory.area (buffer_of d bytes) i j
        (λ e. true≢false (sym was ∙ ap (λ (n : ℕ). is_held (row_in l.memory.store.rows n)) e ∙ free_held (row_in l.memory.store.rows i) room.free))
        (row_inside s l.memory whole (lent_memory s.size _ _ (length l.bus.words) fits) i room.below)
        (if_all (λ (b : List ℕ). length b ≤ s.size.row_bytes) _ _ _
        (omega (arith, length-replicate {A = ℕ} d.requested_length 0, small.0)) small.1)

  submit_keeps : (packets : List ℕ) (q : Request) → Keeps (submit_of packets q s l).lent
  unfolding submit_of submit_by submit_target
  submit_keeps packets q =
      admit_all q.spec (length q.bytes) s l (λ a. Keeps (submit_by a q s l).lent) (λ r h. stays)
      (λ fits i room size.
      target_all (draft (place_of s.size i) (metadata_of q.spec) q.bytes) s l.memory (λ o. Keeps o.lent) (λ x b. stays)
      (λ ready next later b j was is. begun_keeps fits i (room_told _ i room) (metadata_of q.spec) q.bytes size j was) q.readings l.bus)
      packets q.given

  plan_keeps : (q : ControlPlan) (bytes : List ℕ) (first : Result ℕ OperationError) → Keeps (submit_plan_of q bytes first s l).lent
  unfolding submit_plan_of submit_plan_by plan_target
  plan_keeps q bytes first =
      admit_plan_all q (length bytes) s l (λ a. Keeps (submit_plan_by a bytes first s l).lent) (λ r h. stays)
      (λ fits i room size.
      target_all (draft (place_of s.size i) (plan_of q).metadata bytes) s l.memory (λ o. Keeps o.lent) (λ x b. stays)
      (λ ready next later b j was is. begun_keeps fits i (room_told _ i room) (plan_of q).metadata bytes size j was) _ l.bus)

pub held_same : (c : Call) (w : World) → FittedIn w → is_opening c ≡ false → HeldSame w.session.size w.lent.memory (step_of c w).lent.memory
unfolding step_of begun_of replied_of
held_same (Open o) w k e = absurd (true≢false e)
held_same (Place p) w k e = λ i was is. refl
held_same (Move m) w k e = λ i was is. refl
held_same (Begin (Submit packets q)) w k e = submit_keeps w.session w.lent k.whole packets q
held_same (Begin (SubmitPlan q)) w k e = plan_keeps w.session w.lent k.whole q.plan q.bytes q.reading
held_same (Begin (Poll id)) w k e = λ i was is. refl
held_same (Begin (Recover id kind)) w k e = λ i was is. refl
held_same (Reply (ToSubmit reply)) w k e = λ i was is. refl
held_same (Reply (ToPoll reply bytes)) w k e = λ i was is. (finish_safe w.session w.lent.memory k.whole reply bytes).same i is
held_same (Reply (ToRecovery reply lists)) w k e = λ i was is. (recovery_safe w.session w.lent.memory k.whole reply lists).same i is
held_same (Change id c) w k e = λ i was is. refl
held_same (Read r) w k e = λ i was is. refl
