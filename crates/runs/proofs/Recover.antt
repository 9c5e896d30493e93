-- A recovery's two calls keep the session sound. Assumes nothing.
use Rattle.std.specs.Prelude.{Option, Some, None, Result, Ok, Err, ⊤}
use Prim.Native.Nat.{ℕ, ◌<◌, ◌≤◌}
use mathlib.Core.Bool.{true, false, not, ◌&&◌, false≢true}
use mathlib.Core.List.{List, [], ◌∷◌, ◌++◌}
use mathlib.Core.Path.{◌≡◌, refl, sym, ap, ◌∙◌}
use native.Mathlib.Omega.{arith}
use borrow.Author.Tests.{eqb-true, eqb-false, not-true, ltb-false}
use lib.Dec.{eqb, ltb}
use lib.ListN.{length, set, take, drop, length-set}
use lib.Seq.{get_or-set_same, get_or-set_other}
use Rattle.chain.specs.Lists.{count, any_in, is_among}
use Rattle.chain.specs.After.{After}
use Rattle.chain.proofs.Chain.{caseB, if_by, and3}
use Rattle.models.specs.Requests.{same_device}
use Rattle.models.specs.declared.{BackendCompletion.BackendCompletion, DeviceId.DeviceId, OperationError.OperationError, Refusal.Refusal, RequestId.RequestId}
use Rattle.models.specs.declared.ControllerState.TheVariants.{Initialized}
use Rattle.rows.specs.Store.{Store, put_in}
use Rattle.rows.specs.Table.{empty_row, is_uncertain, row_in}
use Rattle.rows.specs.declared.{Row.Row}
use Rattle.rules.specs.Rules.{change_row}
use Rattle.rules.specs.declared.{Change.Change, Step.Step}
use Rattle.session.specs.Session.{with_controller, with_flight, with_stall, marked}
use Rattle.session.specs.Lent.{Memory, memory}
use Rattle.session.specs.declared.{InFlight.InFlight, RecoverableStall.RecoverableStall, Recovery.Recovery, RecoveryKind.RecoveryKind, Session.Session, Size.Size}
use Rattle.scope.specs.Scope.{in_scope}
use Rattle.scope.specs.Returned.{Returned}
use Rattle.ledger.specs.Apply.{apply_by, changed_at}
use Rattle.recovery.specs.Entries.{row_completed_by, tested_by, complete_one, aborted_by, abort_one}
use Rattle.recovery.specs.Recover.{recover_of, begun_as, recovery_of}
use Rattle.recovery.specs.RecoveryReply.{ReplyLists, apply_all, ended, is_whole, is_revision, restored_by, reset_by, session_after, refused_after, concluded_by, settled_of, recovery_reply_of}
use Rattle.recovery.specs.declared.{AbortReport.AbortReport, BackendAbort.BackendAbort, Replied.Replied}
use Rattle.runs.specs.Sound.{FlightReady, Sound}
use Rattle.runs.proofs.Tokens.{tokens_in, Each, scope_each, reply_tokens}
use Rattle.runs.proofs.Moves.{Idle, stays, marked_moves, marked_idle}
use Rattle.runs.proofs.Rows.{one, Leads, kept, moved, moved_idle, RowChange, changed_certain}
use Rattle.runs.proofs.Rules.{StepCertain, StepUsed, complete_step, complete_used, abort_step, abort_used}
use Rattle.runs.proofs.Finish.{TestSound, test_sound}
use Rattle.runs.proofs.Affected.{affected_is_held, meant_affected, meant_below, own_tokens, place_meant}
use Rattle.runs.proofs.Held.{any_count, held_used}
use Rattle.runs.proofs.Ids.{access_held, at_own}
use Rattle.runs.proofs.Ways.{begin_all, recovery_all}
use Rattle.runs.proofs.Entries.{Onward, entries_all}
use Rattle.checks.specs.declared.{completion.CompletionFault.CompletionFault, completion.ValidCompletion.ValidCompletion}

module _ {s t u : Session} {a b c : Store} where
  leads_then : Leads s a t b → Leads t b u c → Leads s a u c
  leads_then p q = record { sound = q.sound; fitted = λ z. q.fitted (p.fitted z) }

-- ---- the start
module _ {s : Session} {store : Store} (k : Sound s store) where
  pub begin_sound : (id : RequestId) (q : RecoveryKind) → Leads s store (recover_of id q s store).session store
  unfolding begun_as
  begin_sound id q =
      begin_all id q s store (λ o. Leads s store o.session store) (λ n e. kept k) (λ i h e m. kept k)
      (λ i h e a m.
      moved k (with_flight s (InFlight.Recovery (recovery_of id q (row_in store.rows i)))) (stays s)
      (record {
        index = i;
        below = h;
        held = access_held id (row_in store.rows i) e a;
        own = at_own id (row_in store.rows i) e;
        of_device = refl;
        of_endpoint = refl;
      }) m)

-- ---- the entries
module _ (place : ℕ → ℕ) where
  -- the row that a token means is used
  abbrev pub Used : List Row → ℕ → Type 0
  Used rows t = (place t < length rows) × ((row_in rows (place t)).used ≡ true)

  abbrev pub AllUsed : List Row → List ℕ → Type 0
  AllUsed rows ts = Each (Used rows) ts

  used_after : (rows : List Row) (i : ℕ) (q : Row) → i < length rows → q.used ≡ true → (ts : List ℕ) → AllUsed rows ts → AllUsed (set rows i q) ts
  used_after rows i q h u [] a = tt
  used_after rows i q h u (t ∷ ts) a = (
    (
      omega (arith, a.0.0, length-set rows i q),
      caseB (eqb (place t) i)
          (λ e. let z = eqb-true (place t) i e in ap (λ (r : Row). r.used) (ap (λ (n : ℕ). row_in (set rows i q) n) z ∙ get_or-set_same rows i q empty_row h) ∙ u)
          (λ e. ap (λ (r : Row). r.used) (get_or-set_other rows i (place t) q empty_row (eqb-false (place t) i e)) ∙ a.0.1),
    ),
    used_after rows i q h u ts a.1,
  )

  module _ (s : Session) (idle : Idle s) where
    pub record Walked (store store' : Store) (us : List ℕ) : Type 0 where
      pub leads : Leads s store s store'
      pub used : AllUsed store'.rows us

    module _ {store : Store} (k : Sound s store) (i : ℕ) (h : i < length store.rows) (u : (row_in store.rows i).used ≡ true) (us : List ℕ)
        (a : AllUsed store.rows us) where
      stays_so : Walked store store us
      stays_so = record { leads = kept k; used = a }

      put_so : (q : Row) → RowChange (row_in store.rows i) q → one is_uncertain q ≤ one is_uncertain (row_in store.rows i) → q.used ≡ (row_in store.rows i).used
          → Walked store (put_in store i q) us
      unfolding put_in
      put_so q c d e = record {
        leads = changed_certain k i h u q c s (stays s) idle d;
        used = used_after store.rows i q h (e ∙ u) us a;
      }

      module _ (z : Size) (bytes area : List ℕ) where
        stepped : (m : Result Step Refusal) → StepCertain (row_in store.rows i) m → StepUsed (row_in store.rows i) m
            → Walked store (row_completed_by (apply_by m i store) z i bytes area).lent.store us
        unfolding row_completed_by apply_by
        stepped (Err x) c e = stays_so
        stepped (Ok xs) c e = put_so xs.row c.0 c.1 e

        tested : (c : BackendCompletion) (p : Result ValidCompletion CompletionFault) → TestSound c (row_in store.rows i).metadata.requested_length p
            → Walked store (tested_by p c.completion_code z i bytes (memory store area)).lent.store us
        unfolding tested_by changed_at
        tested c (Err CompletionFault.MissingLength) t = stays_so
        tested c (Err CompletionFault.Invalid) t = stays_so
        tested c (Ok v) t =
            stepped (change_row (row_in store.rows i) (Change.Complete v.actual_length v.completion_code)) (complete_step (row_in store.rows i) v.actual_length v.completion_code t.2 t.3) (complete_used (row_in store.rows i) v.actual_length v.completion_code)

        completed_one : (c : BackendCompletion) → Walked store (complete_one z i c bytes (memory store area)).lent.store us
        unfolding complete_one
        completed_one c = tested c _ (test_sound c (length bytes) (row_in store.rows i).metadata.requested_length)

      aborted_by_lem : (m : Result Step Refusal) → StepCertain (row_in store.rows i) m → StepUsed (row_in store.rows i) m → Walked store (aborted_by (apply_by m i store)).lent us
      unfolding aborted_by apply_by
      aborted_by_lem (Err x) c e = stays_so
      aborted_by_lem (Ok n) c e = put_so n.row c.0 c.1 e

      aborted_one : Walked store (abort_one i store).lent us
      unfolding abort_one changed_at
      aborted_one = aborted_by_lem (change_row (row_in store.rows i) Change.ConfirmAbort) (abort_step (row_in store.rows i)) (abort_used (row_in store.rows i))

    applied_all : (z : Size) (l : ReplyLists) (m : Memory) → Sound s m.store → AllUsed m.store.rows (reply_tokens l)
        → Leads s m.store s (apply_all z place l m).lent.store
    applied_all z l m k a =
        entries_all place z J P (λ bytes n h. h.leads)
        (λ e es ts bytes n h.
        let one : After (Result ⊤ Refusal) Memory = complete_one z (place e.token) e.brought.completion (take e.brought.given bytes) n in
        on one.result es ts (drop e.brought.given bytes) n one.lent h (completed_one h.leads.sound (place e.token) h.used.0.0 h.used.0.1 (tokens_in es ++ ts) h.used.1 z
        (take e.brought.given bytes) n.area e.brought.completion))
        (λ t ts bytes n h.
        on (abort_one (place t) n.store).result [] ts bytes n (memory (abort_one (place t) n.store).lent n.area) h (aborted_one h.leads.sound (place t) h.used.0.0 h.used.0.1 ts h.used.1))
        l m (record { leads = kept k; used = a })
      where
        J : List Returned → List ℕ → List ℕ → Memory → Type 0
        J es ts bytes n = Walked m.store n.store (tokens_in es ++ ts)

        P : Result ⊤ Refusal → Memory → Type 0
        P x n = Leads s m.store s n.store

        on : (x : Result ⊤ Refusal) (es : List Returned) (ts bytes : List ℕ) (n n' : Memory) {us : List ℕ} → Walked m.store n.store us
            → Walked n.store n'.store (tokens_in es ++ ts) → Onward place z J P x es ts bytes n'
        on (Err r) es ts bytes n n' h o = leads_then h.leads o.leads
        on (Ok tt) es ts bytes n n' h o = record { leads = leads_then h.leads o.leads; used = o.used }

-- ---- the session after the entries
module _ {s : Session} {store : Store} (k : Sound s store) (idle : Idle s) where
  abbrev To : Session → Type 0
  To t = Leads s store t store

  marked_after : To (marked s)
  marked_after = moved_idle k (marked s) (marked_moves s) (marked_idle s idle)

  -- Initialized again: no row is Failed and not quiescent
  restored_after : count is_uncertain store.rows ≡ 0 → (revision : Option ℕ) → To (with_controller (with_stall s None) Initialized revision)
  restored_after z revision = record {
    sound = record {
      sizes = k.sizes;
      rows = λ i h u. let r = k.rows i h u in record { session = r.session; generation = r.generation; below = r.below; fits = r.fits; state = r.state };
      distinct = k.distinct;
      held = k.held;
      uncertain = k.uncertain;
      certain = λ e. z;
      empty = λ e. absurd (false≢true e);
      flight = k.flight;
      ready = ready_idle s.in_flight idle;
    };
    fitted = λ f. record { fits = f.fits; whole = f.whole; own = f.own };
  }
    where
      ready_idle : (f : InFlight) → Idle (with_flight s f) → FlightReady f Initialized
      ready_idle InFlight.Nothing e = tt
      ready_idle (InFlight.Submission id) e = refl
      ready_idle (InFlight.Poll id) e = refl
      ready_idle (InFlight.Recovery x) e = refl

  none_uncertain : not (any_in is_uncertain store.rows) ≡ true → count is_uncertain store.rows ≡ 0
  none_uncertain e =
      let a : ltb 0 (count is_uncertain store.rows) ≡ false = sym (any_count is_uncertain store.rows empty_row) ∙ not-true (any_in is_uncertain store.rows) e in
      omega (arith, ltb-false 0 (count is_uncertain store.rows) a)

  restored_by_lem : (q : Option RecoverableStall) (x : Recovery) → To (restored_by q x (not (any_in is_uncertain store.rows)) s)
  unfolding restored_by
  restored_by_lem None x = moved_idle k (with_stall s None) (stays s) idle
  restored_by_lem (Some note) x =
      if_by To _ _ _
      (λ e. restored_after (none_uncertain (and3 (same_device note.device x.device && eqb note.endpoint x.endpoint) (not (any_in is_uncertain store.rows)) (is_revision s.recovery_revision note.revision) e).1) s.recovery_revision)
      (λ e. moved_idle k (with_stall s None) (stays s) idle)

  reset_after : (q : RecoveryKind) (x : Recovery) → To (reset_by q x store.rows s)
  unfolding reset_by
  reset_after RecoveryKind.Abort x = kept k
  reset_after (RecoveryKind.Reset preserve) x = restored_by_lem s.recoverable_stall x

  concluded_after : (y : Result ⊤ Refusal) (x : Recovery) (o : BackendAbort) (report : AbortReport) (places : List ℕ) → To (concluded_by y (ended s x o) report places store.rows).session
  unfolding concluded_by refused_after session_after
  concluded_after (Err r) x o report places = if_by To _ _ _ (λ e. marked_after) (λ e. kept k)
  concluded_after (Ok tt) x o report places = if_by To _ _ _ (λ e. marked_after) (λ e. reset_after x.kind x)

-- ---- the reply
meant_used : (d : DeviceId) (endpoint : ℕ) (rows : List Row) (t : ℕ) → is_among t (own_tokens d endpoint rows) ≡ true → Used (place_meant d endpoint rows) rows t
meant_used d endpoint rows t e = (
  meant_below d endpoint rows t e,
  held_used (row_in rows (place_meant d endpoint rows t)) (affected_is_held d endpoint rows _ (meant_affected d endpoint rows t e)),
)

module _ {s : Session} (m : Memory) (k : Sound s m.store) (l : ReplyLists) where
  abbrev RecoveredSound : After Replied Memory → Type 0
  RecoveredSound o = Leads s m.store o.result.session o.lent.store

  abbrev quiet : Session
  quiet = with_flight s InFlight.Nothing

  stilled : Leads s m.store quiet m.store
  stilled = moved_idle k quiet (stays s) refl

  marks : Leads s m.store (marked quiet) m.store
  marks = leads_then stilled (marked_after stilled.sound refl)

  settled_sound : (x : Recovery) (o : BackendAbort) → in_scope (is_whole o) (own_tokens x.device x.endpoint m.store.rows) (l.tokens ++ l.aborted) ≡ true
      → RecoveredSound (settled_of (ended quiet x o) (place_meant x.device x.endpoint m.store.rows) l m)
  unfolding settled_of
  settled_sound x o n =
      let place : ℕ → ℕ = place_meant x.device x.endpoint m.store.rows in
      let used = scope_each (own_tokens x.device x.endpoint m.store.rows) (is_whole o) l n (Used place m.store.rows) (meant_used x.device x.endpoint m.store.rows) in
      let a = applied_all place quiet refl quiet.size l m stilled.sound used in
      let done : After (Result ⊤ Refusal) Memory = apply_all quiet.size place l m in
      leads_then stilled (leads_then a (concluded_after a.sound refl done.result x o _ _))

  pub recovery_sound : (r : Result BackendAbort OperationError) → RecoveredSound (recovery_reply_of r l s m)
  recovery_sound r =
      recovery_all l s m RecoveredSound (kept k) (kept k) (kept k) (λ e. marks) marks (λ x own o n. settled_sound x o n) r
