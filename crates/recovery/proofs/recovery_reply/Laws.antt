-- One law for each way out of a recovery's reply: its premises are the facts in hand there. Assumes nothing.
use Rattle.std.specs.Prelude.{Option, Some, None, Result, Ok, Err, ⊤}
use Prim.Native.Nat.{ℕ, ◌+◌, ◌-◌, ◌≤◌}
use mathlib.Core.Bool.{Bool, true, false, not}
use mathlib.Core.List.{List, [], ◌++◌}
use mathlib.Core.Path.{◌≡◌, refl, sym, ap, ◌∙◌}
use native.Mathlib.Omega.{arith}
use lib.ListN.{length, take, drop, length-take, length-map}
use borrow.Author.Tests.{eq-eqb, ne_eqb}
use Rattle.chain.specs.After.{After, after}
use Rattle.chain.specs.Lists.{any_in, listed}
use Rattle.chain.proofs.Chain.{takes, passes, both, fits_told}
use Rattle.words.proofs.Parts.{rest_some}
use Rattle.models.specs.Refusals.{refusal_of, from_backend}
use Rattle.models.specs.Said.{Tabled}
use Rattle.models.specs.declared.ControllerState.TheVariants.{Initialized}
use Rattle.models.specs.declared.{OperationError.OperationError, Refusal.Refusal, RequestId.RequestId}
use Rattle.rows.specs.Table.{read_rows, is_uncertain}
use Rattle.rows.specs.Store.{store_of}
use Rattle.rows.specs.declared.{Row.Row}
use Rattle.session.specs.Session.{with_controller, with_flight, with_stall, marked}
use Rattle.session.specs.declared.{InFlight.InFlight, RecoverableStall.RecoverableStall, Recovery.Recovery, RecoveryKind.RecoveryKind, Session.Session, Size.Size}
use Rattle.scope.specs.Affected.{affected_of, tokens_of}
use Rattle.scope.specs.Scope.{meant, in_scope}
use Rattle.scope.specs.Returned.{read_returned, lists_agree}
use Rattle.recovery.specs.Entries.{itself, complete_all, abort_all}
use Rattle.models.specs.Requests.{no_id}
use Rattle.recovery.specs.Reports.{ids_of, id_lists, many_in, ids_in, filled, with_ids}
use Rattle.recovery.specs.Places.{Below, Fit, Places}
use Rattle.scope.proofs.affected.Laws.{affected_bounded}
use Rattle.chain.proofs.Listed.{listed-take}
use Rattle.session.specs.Lent.{Memory, memory, memory_fits}
use Rattle.session.specs.Sizes.{rows_fit, memory_sizes}
use Rattle.session.proofs.sizes.Laws.{memory_rows, rows_sized}
use borrow.Author.Tests.{not-false}
use Rattle.recovery.specs.RecoveryReply.{ReplyLists, reply_lists, apply_all, ended, is_whole, matching, restored_by, reset_by, session_after, refused_after, recovery_refused, concluded_by, settled_of, done_of, reply_by, reply_sized, reply_in, recovery_reply_of}
use Rattle.recovery.specs.Said.{recovery_said, recovery_reply_numbers}
use Rattle.recovery.specs.declared.{AbortReport.AbortReport, Ids.Ids, BackendAbort.BackendAbort, Recovered.Recovered, Replied.Replied, recovery_reply.Ended.Ended}
use Rattle.recovery.proofs.entries.Laws.{below_kept}

-- ---- the session after the entries
module _ (q : Option RecoverableStall) (x : Recovery) (certain : Bool) (s t : Session) (et : t ≡ with_stall s None) where
  pub restored_none : q ≡ None → t ≡ restored_by q x certain s
  unfolding restored_by
  restored_none e = et ∙ rw e

  module _ (note : RecoverableStall) (e : q ≡ Some note) (b : Bool) (eb : b ≡ matching note x certain s) where
    pub restored_on : (y : Session) → b ≡ true → y ≡ with_controller t Initialized s.recovery_revision → y ≡ restored_by q x certain s
    unfolding restored_by
    restored_on y h ey = rw e (takes Session _ (matching note x certain s) _ _ (sym eb ∙ h) (rw et at ey))

    pub restored_off : b ≡ false → t ≡ restored_by q x certain s
    unfolding restored_by
    restored_off h = rw e (passes Session _ (matching note x certain s) _ _ (sym eb ∙ h) et)

module _ (k : RecoveryKind) (x : Recovery) (rows : List Row) (s : Session) where
  pub reset_abort : k ≡ RecoveryKind.Abort → s ≡ reset_by k x rows s
  unfolding reset_by
  reset_abort e = rw e

  pub reset_on : (preserve u : Bool) (next : Session) → k ≡ RecoveryKind.Reset preserve → u ≡ any_in is_uncertain rows
      → next ≡ restored_by s.recoverable_stall x (not u) s → next ≡ reset_by k x rows s
  unfolding reset_by
  reset_on preserve u next e eu en = en ∙ rw (e, eu)

module _ (e : Ended) (rows : List Row) (b : Bool) (eb : b ≡ is_whole e.outcome) (next : Session) where
  pub after_marked : not b ≡ true → next ≡ marked e.idle → next ≡ session_after e rows
  unfolding session_after
  after_marked t en = takes Session _ _ _ _ (ap not (sym eb) ∙ t) en

  pub after_on : not b ≡ false → next ≡ reset_by e.recovery.kind e.recovery rows e.idle → next ≡ session_after e rows
  unfolding session_after
  after_on t en = passes Session _ _ _ _ (ap not (sym eb) ∙ t) en

module _ (r : Refusal) (idle : Session) where
  pub refused_marked : (next : Session) → r.number ≡ 48 → next ≡ marked idle → next ≡ refused_after r idle
  unfolding refused_after
  refused_marked next t e = takes Session _ _ _ _ (eq-eqb r.number 48 t) e

  pub refused_idle : (r.number ≡ 48 → ⊥) → idle ≡ refused_after r idle
  unfolding refused_after
  refused_idle t = passes Session _ _ _ _ (ne_eqb r.number 48 t) refl

-- ---- the entries and the report
module _ (z : Size) (places words bytes : List ℕ) (n : ℕ) (m : Memory) (v : Result ⊤ Refusal) (w₁ area₁ : List ℕ)
    (ev : after v (memory (store_of w₁) area₁) ≡ complete_all z itself (read_returned (take n places) words) bytes m) where
  abbrev all : After (Result ⊤ Refusal) Memory
  all = apply_all z itself (reply_lists (take n places) words (drop n places) bytes) m

  pub apply_stop : (r : Refusal) (y : Result ⊤ Refusal) → v ≡ Err r → y ≡ Err r → after y (memory (store_of w₁) area₁) ≡ all
  unfolding apply_all
  apply_stop r y e ey = rw (ey, ← ev, e)

  pub apply_on : (u : Result ⊤ Refusal) (w₂ : List ℕ) → v ≡ (Ok tt) → after u (store_of w₂) ≡ abort_all itself (take (length places - n) (drop n places)) (store_of w₁)
      → after u (memory (store_of w₂) area₁) ≡ all
  unfolding apply_all
  apply_on u w₂ e eu = rw (← ev, e, ← rest_some places n, ← eu)

pub rest_below : (w w₀ places : List ℕ) (n : ℕ) → length w ≡ length w₀ → Below w₀ (drop n places) → Below w (take (length places - n) (drop n places))
rest_below w w₀ places n e b = rw (rest_some places n) (below_kept w w₀ (drop n places) e b)

module _ (v : Result ⊤ Refusal) (e : Ended) (report : AbortReport) (places : List ℕ) (rows : List Row) where
  pub conclude_no : (r : Refusal) (next : Session) (y : Replied) → v ≡ Err r → next ≡ refused_after r e.idle → y ≡ recovery_refused next r
      → y ≡ concluded_by v e report places rows
  unfolding concluded_by
  conclude_no r next y ev en ey = ey ∙ rw (ev, en)

  pub conclude_on : (next : Session) → v ≡ (Ok tt) → next ≡ session_after e rows
      → ◌≡◌ {A = Replied} (record { answer = Ok report; session = next; places = places }) (concluded_by v e report places rows)
  unfolding concluded_by
  conclude_on next ev en = rw (ev, en)

-- ---- the affected rows, collected in the first places of a list
fit_some : (z : Size) (w area : List ℕ) → Fit z w area → 1 ≤ length (read_rows w)
fit_some z w area f =
    omega (arith, memory_rows z w (length area) f.sizes, (rows_sized z (length w) (both (rows_fit z (length w)) _ f.sizes).0).some_rows)

module _ (x : Recovery) (w list : List ℕ) (count : ℕ) (ec : take count list ≡ affected_of x.device x.endpoint (read_rows w)) (h : count ≤ 128) (el : length list ≡ 128) where
  count_is : count ≡ length (affected_of x.device x.endpoint (read_rows w))
  count_is = let len : length (take count list) ≡ count = simp length-take (omega arith) in sym len ∙ ap length ec

  pub affected_places : (z : Size) (area : List ℕ) → Fit z w area → Places z w area (take count list)
  affected_places z area f = record {
    fit = f;
    below = record { some = fit_some z w area f; inside = rw ec (affected_bounded x.device x.endpoint (read_rows w)) };
  }

  module _ (own : List ℕ) (eo : own ≡ listed 128 0 (tokens_of (read_rows w) (take count list))) where
    own_is : take count own ≡ tokens_of (read_rows w) (affected_of x.device x.endpoint (read_rows w))
    own_is = rw (eo, ec) (listed-take 128 0 (tokens_of (read_rows w) (affected_of x.device x.endpoint (read_rows w))) count (count_is ∙ sym (length-map (affected_of x.device x.endpoint (read_rows w)) _)) h)

    pub own_few : length (take count own) ≤ 128
    own_few = simp length-take (omega arith)

    pub done_is : (idle : Session) (o : BackendAbort) (l : ReplyLists) (area : List ℕ) (y : After Replied Memory)
        → y ≡ done_of (ended idle x o) (take count list) (take count own) l (memory (store_of w) area)
        → y ≡ reply_by (Ok o) x l idle (memory (store_of w) area)
    unfolding reply_by store_of
    done_is idle o l area y ey = ey ∙ rw (own_is, ec)

-- ---- the scope
module _ (e : Ended) (affected own : List ℕ) (l : ReplyLists) (m : Memory) (whole b : Bool) (ew : whole ≡ is_whole e.outcome)
    (eb : b ≡ in_scope whole own (l.tokens ++ l.aborted)) where
  scope_is : in_scope (is_whole e.outcome) own (l.tokens ++ l.aborted) ≡ b
  scope_is = sym (eb ∙ ap (λ (z : Bool). in_scope z own (l.tokens ++ l.aborted)) ew)

  pub scope_46 : (next : Session) (y : Replied) → not b ≡ true → next ≡ marked e.idle → y ≡ recovery_refused next (refusal_of 46)
      → after y m ≡ done_of e affected own l m
  unfolding done_of
  scope_46 next y t en ey = takes (After Replied Memory) _ _ _ _ (ap not scope_is ∙ t) (rw (ey, en))

  pub scope_on : (y : After Replied Memory) → not b ≡ false → y ≡ settled_of e (meant affected own) l m → y ≡ done_of e affected own l m
  unfolding done_of
  scope_on y t ey = passes (After Replied Memory) _ _ _ _ (ap not scope_is ∙ t) ey

-- ---- by the reply, the sizes and what is in flight
module _ (p : Result BackendAbort OperationError) (x : Recovery) (l : ReplyLists) (idle : Session) (m : Memory) where
  pub reply_45 : (e : OperationError) (next : Session) (r : Refusal) (y : Replied) → p ≡ Err e → next ≡ marked idle → r ≡ from_backend 45 e
      → y ≡ recovery_refused next r → after y m ≡ reply_by p x l idle m
  unfolding reply_by
  reply_45 e next r y f en er ey = rw (ey, en, er, f)

  pub reply_done : (o : BackendAbort) (y : After Replied Memory) → p ≡ Ok o → y ≡ reply_by (Ok o) x l idle m → y ≡ reply_by p x l idle m
  reply_done o y f ey = ey ∙ rw f

module _ (r : Result BackendAbort OperationError) (x : Recovery) (l : ReplyLists) (s : Session) (m : Memory) (f : Bool) (ef : f ≡ memory_fits s.size m) where
  pub sized_3 : (y : Replied) → not f ≡ true → y ≡ recovery_refused s (refusal_of 3) → after y m ≡ reply_sized r x l s m
  unfolding reply_sized
  sized_3 y t ey = takes (After Replied Memory) _ _ _ _ (rw ef at t) (rw ey)

  module _ (t : not f ≡ false) (g : Bool) (eg : g ≡ lists_agree (length l.tokens) l.completions (length l.bytes)) where
    pub sized_49 : (y : Replied) → not g ≡ true → y ≡ recovery_refused s (refusal_of 49) → after y m ≡ reply_sized r x l s m
    unfolding reply_sized
    sized_49 y n ey = passes (After Replied Memory) _ _ _ _ (rw ef at t) (takes (After Replied Memory) _ _ _ _ (rw eg at n) (rw ey))

    pub sized_on : (idle : Session) (y : After Replied Memory) → not g ≡ false → idle ≡ with_flight s InFlight.Nothing → y ≡ reply_by r x l idle m → y ≡ reply_sized r x l s m
    unfolding reply_sized
    sized_on idle y n ei ey = passes (After Replied Memory) _ _ _ _ (rw ef at t) (passes (After Replied Memory) _ _ _ _ (rw eg at n) (rw ei at ey))

-- what the tests of the sizes say
pub fit_is : (s idle : Session) (w area : List ℕ) (f : Bool) → f ≡ memory_sizes s.size (length w) (length area) → not f ≡ false → idle ≡ with_flight s InFlight.Nothing
    → Fit idle.size w area
fit_is s idle w area f e t ei = rw ei (record { sizes = fits_told f _ e t })

pub agreed_is : (n : ℕ) (words : List ℕ) (size : ℕ) (g : Bool) → g ≡ lists_agree n words size → not g ≡ false → lists_agree n words size ≡ true
agreed_is n words size g e t = sym e ∙ not-false g t

module _ (r : Result BackendAbort OperationError) (l : ReplyLists) (s : Session) (m : Memory) where
  module _ (y : Replied) (ey : y ≡ recovery_refused s (refusal_of 2)) where
    refused_in : reply_in s.in_flight r l s m ≡ after (recovery_refused s (refusal_of 2)) m → after y m ≡ recovery_reply_of r l s m
    unfolding recovery_reply_of
    refused_in e = rw ey (sym e)

    pub in_idle : s.in_flight ≡ InFlight.Nothing → after y m ≡ recovery_reply_of r l s m
    unfolding recovery_reply_of reply_in
    in_idle e = refused_in (ap (λ (f : InFlight). reply_in f r l s m) e)

    pub in_submission : (id : RequestId) → s.in_flight ≡ InFlight.Submission id → after y m ≡ recovery_reply_of r l s m
    unfolding recovery_reply_of reply_in
    in_submission id e = refused_in (ap (λ (f : InFlight). reply_in f r l s m) e)

    pub in_poll : (id : RequestId) → s.in_flight ≡ InFlight.Poll id → after y m ≡ recovery_reply_of r l s m
    unfolding recovery_reply_of reply_in
    in_poll id e = refused_in (ap (λ (f : InFlight). reply_in f r l s m) e)

  pub in_recovery : (x : Recovery) (y : After Replied Memory) → s.in_flight ≡ InFlight.Recovery x → y ≡ reply_sized r x l s m → y ≡ recovery_reply_of r l s m
  unfolding recovery_reply_of reply_in
  in_recovery x y e ey = ey ∙ rw e

-- ---- the ids at the places
pub parted_is : (rows : List Row) (l : List ℕ) (n m : ℕ) (a b : List RequestId) → a ≡ listed 128 no_id (ids_of rows (take n l))
    → b ≡ listed 128 no_id (ids_of rows (take (n + m - n) (drop n l))) → ◌≡◌ {A = Ids} (record { completed = a; aborted = b }) (id_lists rows (take n l) (take m (drop n l)))
parted_is rows l n m a b ea eb = let z : n + m - n ≡ m = omega arith in rw (ea, eb, z)

pub fill_refused : (p : Replied) (rows : List Row) (r : Refusal) (ids : Ids) → p.answer ≡ Err r → ids ≡ id_lists rows [] []
    → ◌≡◌ {A = Recovered} (record { answer = p.answer; session = p.session; ids = ids }) (filled p rows)
fill_refused p rows r ids e ei = ap (λ (q : Ids). record { answer = p.answer; session = p.session; ids = q }) (ei ∙ sym (ap (λ (x : Result AbortReport Refusal). ids_in x rows p.places) e))

module _ (p : Replied) (r : AbortReport) (e : p.answer ≡ Ok r) (h : many_in p.answer ≤ 128) where
  pub fill_few : r.completed + r.aborted ≤ 128
  fill_few = omega (arith, h, ap many_in e)

  pub fill_report : (rows : List Row) (ids : Ids) → ids ≡ id_lists rows (take r.completed p.places) (take r.aborted (drop r.completed p.places))
      → ◌≡◌ {A = Recovered} (record { answer = Ok r; session = p.session; ids = ids }) (filled p rows)
  fill_report rows ids ei =
      ap (λ (q : Ids). record { answer = Ok r; session = p.session; ids = q }) ei
      ∙ sym (ap (λ (x : Result AbortReport Refusal). record { answer = x; session = p.session; ids = ids_in x rows p.places }) e)

pub filled_told : (o : After Replied Memory) (p : Replied) (w area : List ℕ) (r : Recovered) → r ≡ filled p (read_rows w)
    → (after p (memory (store_of w) area) ≡ o) × Tabled recovery_reply_numbers (recovery_said p.answer)
    → (after r (memory (store_of w) area) ≡ with_ids o) × Tabled recovery_reply_numbers (recovery_said r.answer)
unfolding store_of
filled_told o p w area r e f = rw e (ap with_ids f.0, f.1)
