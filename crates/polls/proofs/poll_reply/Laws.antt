-- One law for each way out of a poll's reply: its premises are the facts in hand there. Assumes nothing.
use Rattle.std.specs.Prelude.{Option, Some, None, Result, Ok, Err}
use Prim.Native.Nat.{ℕ, ◌+◌, ◌*◌, ◌≤◌}
use mathlib.Core.Bool.{Bool, true, false, not, ◌&&◌}
use mathlib.Core.List.{List}
use mathlib.Core.Path.{◌≡◌, refl, sym, ap, ◌∙◌}
use borrow.Author.Tests.{not-true, not-false}
use lib.ListN.{length}
use Rattle.chain.specs.After.{After, after}
use Rattle.chain.specs.Lists.{found_in}
use Rattle.chain.proofs.Chain.{takes, passes, not_through}
use Rattle.models.specs.Refusals.{refusal_of, from_backend, invalid_completion}
use Rattle.models.specs.declared.{BackendCompletion.BackendCompletion, OperationError.OperationError, Refusal.Refusal, RequestId.RequestId, RequestMetadata.RequestMetadata, RequestReport.RequestReport}
use Rattle.standards.specs.Completion.{is_stall}
use Rattle.rows.specs.Table.{read_rows, row_in}
use Rattle.rows.specs.Store.{Store}
use Rattle.rows.specs.declared.{Row.Row}
use Rattle.rules.specs.Rules.{report_of}
use Rattle.rules.specs.declared.{Change.Change}
use Rattle.ledger.specs.Apply.{changed_at}
use Rattle.ledger.specs.Search.{is_at}
use Rattle.checks.specs.Completion.{test_completion}
use Rattle.session.specs.Session.{marked, with_flight, with_stall}
use Rattle.session.specs.Sizes.{data_at, memory_sizes}
use Rattle.session.specs.Lent.{Memory, memory, memory_fits}
use Rattle.session.specs.declared.{Called.Called, InFlight.InFlight, RecoverableStall.RecoverableStall, Recovery.Recovery, Session.Session, Size.Size}
use Rattle.reports.specs.Answers.{effect}
use Rattle.polls.specs.PollReply.{is_recovery, code_is_stall, is_scoped_stall, stall_of, failed_as, invalid_as, judged_test, judged_by, judged, stored_in, settled, poll_reply_at, poll_reply_by, poll_reply_found, poll_reply_in, poll_reply_of}
use Rattle.polls.specs.declared.{poll_reply.Judgement.Judgement}
use Rattle.reports.proofs.change.Laws.{reported_as}
use Rattle.reports.proofs.Bytes.{found_place}
use Rattle.checks.specs.declared.{completion.CompletionFault.CompletionFault, completion.ValidCompletion.ValidCompletion}
use Rattle.session.specs.Called.{call_refused}

abbrev pub judgement : Change → Session → Bool → Judgement
judgement c s stored = record { change = c; session = s; stored = stored }

-- a stall's code, and a stall
pub code_some : (o : Option ℕ) (code : ℕ) (b : Bool) → o ≡ Some code → b ≡ is_stall code → b ≡ code_is_stall o
code_some o code b e f = f ∙ rw e

pub scoped_is : (c : BackendCompletion) (e : OperationError) (a b r : Bool) → a ≡ code_is_stall c.completion_code → b ≡ code_is_stall e.completion_code
    → r ≡ is_recovery e.category → (a && b && r) ≡ is_scoped_stall c e
scoped_is c e a b r ea eb er = rw (ea, eb, er)

-- the stall to keep
module _ (o : Option ℕ) (m : RequestMetadata) (scoped : Bool) where
  pub stall_none : o ≡ None → None ≡ stall_of o m scoped
  unfolding stall_of
  stall_none e = rw e

  module _ (n : ℕ) (e : o ≡ Some n) where
    pub stall_other : not scoped ≡ true → None ≡ stall_of o m scoped
    unfolding stall_of
    stall_other t = rw e (takes (Option RecoverableStall) _ _ _ _ t refl)

    pub stall_some : not scoped ≡ false → Some (record { revision = n; device = m.device; endpoint = m.endpoint }) ≡ stall_of o m scoped
    unfolding stall_of
    stall_some t = rw e (passes (Option RecoverableStall) _ _ _ _ t refl)

-- a completion with an error
module _ (s : Session) (row : Row) (c : BackendCompletion) (e : OperationError) where
  pub failed_quiet : c.quiescent ≡ true → judgement (Change.Fail e c.completion_code c.quiescent) s false ≡ failed_as s row c e
  unfolding failed_as
  failed_quiet t = takes Judgement _ _ _ _ t refl

  pub failed_marked : (scoped : Bool) (m next : Session) (o : Option RecoverableStall) → c.quiescent ≡ false → scoped ≡ is_scoped_stall c e → m ≡ marked s
      → o ≡ stall_of m.recovery_revision row.metadata scoped → next ≡ with_stall m o
      → judgement (Change.Fail e c.completion_code c.quiescent) next false ≡ failed_as s row c e
  unfolding failed_as
  failed_marked scoped m next o t es em eo en = passes Judgement _ _ _ _ t (rw (en, eo, em, es))

-- a completion by its test
module _ (s : Session) (c : BackendCompletion) where
  pub invalid_is : (r : Refusal) (m : Session) → r ≡ invalid_completion c.completion_code → m ≡ marked s
      → judgement (Change.Fail r.error c.completion_code false) m false ≡ invalid_as s c
  unfolding invalid_as
  invalid_is r m er em = rw (er, em)

  module _ (t : Result ValidCompletion CompletionFault) where
    pub test_valid : (v : ValidCompletion) → t ≡ Ok v → judgement (Change.Complete v.actual_length v.completion_code) s true ≡ judged_test t s c
    unfolding judged_test
    test_valid v e = rw e

    module _ (j : Judgement) (ej : j ≡ invalid_as s c) where
      pub test_fault : (f : CompletionFault) → t ≡ Err f → j ≡ judged_test t s c
      unfolding judged_test
      test_fault f e = ej ∙ rw e

  module _ (row : Row) (given : ℕ) (j : Judgement) where
    pub judged-error : (e : OperationError) → c.error ≡ Some e → j ≡ failed_as s row c e → j ≡ judged s row c given
    unfolding judged judged_by
    judged-error e f ej = ej ∙ rw f

    pub judged_test_lem : (t : Result ValidCompletion CompletionFault) → c.error ≡ None → t ≡ test_completion c given row.metadata.requested_length → j ≡ judged_test t s c
        → j ≡ judged s row c given
    unfolding judged judged_by
    judged_test_lem t f et ej = ej ∙ ap (λ (x : Result ValidCompletion CompletionFault). judged_test x s c) et ∙ sym (ap (λ (o : Option OperationError). judged_by o s row c given) f)

-- the data
module _ (z : Size) (i : ℕ) (bytes : List ℕ) (stored : Bool) (area : List ℕ) where
  pub data_left : not stored ≡ true → area ≡ stored_in z i bytes stored area
  unfolding stored_in
  data_left t = passes (List ℕ) _ _ _ _ (not-true stored t) refl

  pub data_stored : (left : List ℕ) → not stored ≡ false → left ≡ data_at z i bytes area → left ≡ stored_in z i bytes stored area
  unfolding stored_in
  data_stored left t ea = takes (List ℕ) _ _ _ _ (not-false stored t) ea

-- the row took the change
module _ (j : Judgement) (i : ℕ) (bytes : List ℕ) (idle : Session) (area : List ℕ) (a : Result RequestReport Refusal) (left : Store) (o : After (Result RequestReport Refusal) Store) (eo : after a left ≡ o) where
  pub settled_no : (r : Refusal) (x : Called RequestReport) → a ≡ Err r → x ≡ call_refused idle r → after x (memory left area) ≡ settled o j i bytes idle area
  unfolding settled
  settled_no r x e ex = rw (← eo, e, ex)

  pub settled_done : (x : RequestReport) (next : List ℕ) → a ≡ Ok x → next ≡ stored_in idle.size i bytes j.stored area
      → after (reported_as (Ok x) j.session) (memory left next) ≡ settled o j i bytes idle area
  unfolding settled
  settled_done x next e ea = rw (← eo, e, ea)

-- by the reply
module _ (r : Result (Option BackendCompletion) OperationError) (i : ℕ) (bytes : List ℕ) (idle : Session) (m : Memory) (own : Row) (eo : own ≡ row_in m.store.rows i) where
  pub at_nothing : (x : RequestReport) → r ≡ (Ok None) → x ≡ report_of own → after (reported_as (Ok x) idle) m ≡ poll_reply_at r i bytes idle m
  unfolding poll_reply_at
  at_nothing x e ex = rw (e, ex, eo)

  pub at_error : (e : OperationError) (next : Session) (f : Refusal) (x : Called RequestReport) → r ≡ Err e → next ≡ effect e idle → f ≡ from_backend 45 e
      → x ≡ call_refused next f → after x m ≡ poll_reply_at r i bytes idle m
  unfolding poll_reply_at
  at_error e next f x t en ef ex = rw (ex, t, en, ef)

  pub at_completion : (c : BackendCompletion) (j : Judgement) (y : After (Called RequestReport) Memory) → r ≡ Ok (Some c) → j ≡ judged idle own c (length bytes)
      → y ≡ settled (changed_at i j.change m.store) j i bytes idle m.area → y ≡ poll_reply_at r i bytes idle m
  unfolding poll_reply_at
  at_completion c j y t ej ey = ey ∙ rw (t, ej, eo)

-- by the sizes and the search
module _ (id : RequestId) (r : Result (Option BackendCompletion) OperationError) (bytes : List ℕ) (s : Session) (m : Memory) (f : Bool) (ef : f ≡ memory_fits s.size m) where
  pub found_unfit : (x : Called RequestReport) → not f ≡ true → x ≡ call_refused s (refusal_of 3) → after x m ≡ poll_reply_found id r bytes s m
  unfolding poll_reply_found
  found_unfit x t ex = takes (After (Called RequestReport) Memory) _ _ _ _ (not_through f _ true ef t) (rw ex)

  module _ (t : not f ≡ false) (g : Option ℕ) (eg : g ≡ found_in (is_at id) m.store.rows) where
    pub found_none : (x : Called RequestReport) → g ≡ None → x ≡ call_refused s (refusal_of 2) → after x m ≡ poll_reply_found id r bytes s m
    unfolding poll_reply_found poll_reply_by
    found_none x e ex = passes (After (Called RequestReport) Memory) _ _ _ _ (not_through f _ false ef t) (rw (sym eg ∙ e, ex))

    pub found_at : (i : ℕ) (idle : Session) (y : After (Called RequestReport) Memory) → g ≡ Some i → idle ≡ with_flight s InFlight.Nothing
        → y ≡ poll_reply_at r i bytes idle m → y ≡ poll_reply_found id r bytes s m
    unfolding poll_reply_found poll_reply_by
    found_at i idle y e ei ey = passes (After (Called RequestReport) Memory) _ _ _ _ (not_through f _ false ef t) (ey ∙ rw (sym eg ∙ e, ei))

-- the session with another operation in flight, or none, has the same sizes
pub idle_place : (s idle : Session) (k : InFlight) (w : List ℕ) (size : ℕ) (f : Bool) → f ≡ memory_sizes s.size (length w) size → not f ≡ false
    → (p : Row → Bool) (g : Option ℕ) (i : ℕ) → g ≡ found_in p (read_rows w) → g ≡ Some i → idle ≡ with_flight s k
    → i * idle.size.row_bytes + idle.size.row_bytes ≤ size
idle_place s idle k w size f ef t p g i eg e ei = rw ei (found_place s.size w size f ef t p g i eg e)

-- by what is in flight
module _ (r : Result (Option BackendCompletion) OperationError) (bytes : List ℕ) (s : Session) (m : Memory) where
  module _ (x : Called RequestReport) (ex : x ≡ call_refused s (refusal_of 2)) where
    pub reply_idle : s.in_flight ≡ InFlight.Nothing → after x m ≡ poll_reply_of r bytes s m
    unfolding poll_reply_of poll_reply_in
    reply_idle e = rw (ex, e)

    pub reply_submission : (id : RequestId) → s.in_flight ≡ InFlight.Submission id → after x m ≡ poll_reply_of r bytes s m
    unfolding poll_reply_of poll_reply_in
    reply_submission id e = rw (ex, e)

    pub reply_recovery : (v : Recovery) → s.in_flight ≡ InFlight.Recovery v → after x m ≡ poll_reply_of r bytes s m
    unfolding poll_reply_of poll_reply_in
    reply_recovery v e = rw (ex, e)

  pub reply_on : (id : RequestId) (y : After (Called RequestReport) Memory) → s.in_flight ≡ InFlight.Poll id → y ≡ poll_reply_found id r bytes s m → y ≡ poll_reply_of r bytes s m
  unfolding poll_reply_of poll_reply_in
  reply_on id y e ey = ey ∙ rw e
